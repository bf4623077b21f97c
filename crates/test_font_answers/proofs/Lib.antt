-- Laws of crate test_font_answers: Numbers (a refusal has a number).
mod Numbers
