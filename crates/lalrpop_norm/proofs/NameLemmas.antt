-- A name of the format is an identifier; for symbols and items.
use Rattle.std.proofs.Common.{◌≡◌, [], ◌∷◌, true}
use Rattle.std.specs.Prelude.{IsTrue}
use Rattle.lalrpop_grammar_symbols.specs.Symbols.{Text}
use Rattle.lalrpop_json_values.specs.Scalars.{is_name}
use Rattle.lalrpop_norm_theory.specs.Premises.{is_identifier}

-- a name of the format is an identifier
pub name_read : (n : Text) → IsTrue (is_name n) → is_identifier n ≡ true
name_read [] h = h
name_read (c ∷ cs) h = h
