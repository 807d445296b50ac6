use Rattle.std.proofs.Common.{rules}
use Rattle.lalrpop_plain_tables.proofs.answers.own_terminals.has_its_terminals.Goals as goal

pub returns : goal.returns
returns c = λ h. record {
  numbered = record {
    numbered = c.are_numbered.ensures (search rules);
    places = c.are_places.ensures (search rules);
  };
  known = c.are_known.ensures h;
}
