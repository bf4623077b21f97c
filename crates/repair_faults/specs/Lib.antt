-- Each test of a step over what it asks of alone: Tests.
pub mod Tests
