pub mod AppliedSetLemmas
