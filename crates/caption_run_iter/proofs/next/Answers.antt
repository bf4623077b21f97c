-- The step says the answer and the state, and the word stays.
use Rattle.std.proofs.Common.{ℤ, refl, ap, subst}
use Rattle.words.proofs.Bits.{number_word}
use Rattle.captions.specs.declared.Step.{Step}
use Rattle.captions.specs.Steps.{Stepped}
use Rattle.captions.proofs.Replies.{stepped_is}
use Rattle.caption_run_iter.proofs.next.Goals as goal

pub returns : goal.returns
returns c =
    let a = c.args in
    let s : Stepped a.pairs.now a.ops.now a.boundary a.r.now.word.now a.options a.r.now.state c.step-given.result =
    subst (λ (z : ℤ). Stepped a.pairs.now a.ops.now z a.r.now.word.now a.options a.r.now.state c.step-given.result)
    (number_word a.boundary c.ranges.boundary) c.step-given.ensures in
    record {
      answer =
          ap (λ (t : Step). t.answer) (stepped_is a.pairs.now a.ops.now a.boundary a.r.now.word.now a.options a.r.now.state s);
      state = s.state;
      word = refl;
    }
