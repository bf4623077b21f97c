-- Laws of crate test_requests: Parts (the definitions by the tests that the code makes, and numbers written in turn).
pub mod Parts
