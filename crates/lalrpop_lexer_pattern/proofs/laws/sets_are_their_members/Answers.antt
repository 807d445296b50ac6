use Rattle.lalrpop_lexer_pattern.proofs.MemberLemmas.{members_of_a_test, canonical_ranges_of_a_test, members_determine}
use Rattle.lalrpop_lexer_pattern.proofs.laws.sets_are_their_members.Goals as goal

pub returns : goal.returns
returns c = record { members = members_of_a_test; canonical = canonical_ranges_of_a_test; unique = members_determine }
