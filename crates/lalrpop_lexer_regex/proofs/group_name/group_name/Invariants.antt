use Rattle.std.proofs.Common.{◌≡◌, ◌<◌, length}
use Rattle.std.specs.String.{string_bytes}
use Rattle.lalrpop_lexer_regex.specs.GroupNames.{group_name_at, group_name_from}
use Rattle.lalrpop_lexer_regex.proofs.group_name.group_name.Given as goal

abbrev pub invariant-loop-character : goal.invariant-loop-character
invariant-loop-character l = record {
  shorter : length l.rest < length l.fn.text;
  same : group_name_at l.fn.text ≡ group_name_from (string_bytes l.name) l.rest;
}

abbrev pub decreases-loop-character : goal.decreases-loop-character
decreases-loop-character l = length l.rest
