use Rattle.std.proofs.Common.{inl, refl, subst, sym}
use Rattle.lalrpop_grammar_rules.specs.Views.{closed_view}
use Rattle.lalrpop_norm_keys.specs.Tables.{HasEachOnce, table_keys}
use Rattle.lalrpop_norm_keys.proofs.TableLemmas.{once_more, place_is_there}
use Rattle.lalrpop_norm_keys.proofs.key_table.key_table.KeyTable.add.Goals as goal

pub returns-in-Some-clause-added : goal.returns-in-Some-clause-added
returns-in-Some-clause-added c =
    inl (place_is_there (table_keys c.args.self.now) c.in-Some.field-0 (closed_view c.args.key.now) c.in-Some.ensures, refl)

pub returns-in_ok-put-in-None-clause-indexed : goal.returns-in_ok-put-in-None-clause-indexed
returns-in_ok-put-in-None-clause-indexed c = record {
  places = c.in_ok-put-in-None.ensures.places;
  once = subst HasEachOnce (sym c.in_ok-put-in-None.ensures.keys)
      (once_more (table_keys c.args.self.now) (closed_view c.args.key.now) c.requires.once c.in-None.ensures);
}
