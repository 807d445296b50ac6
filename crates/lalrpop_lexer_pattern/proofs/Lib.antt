pub mod MeaningLemmas
pub mod RefusalLemmas
pub mod SetLemmas
pub mod FoldLemmas
pub mod PartnerLemmas
pub mod PairLemmas
pub mod MemberLemmas
mod CopyLemmas
pub mod TouchingLemmas
