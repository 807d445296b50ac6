-- The rules whose types an equation needs; for the order in which equations are asked.
use Rattle.std.specs.Prelude.{List, [], ◌∷◌, ◌++◌, flat_map, map, if◌then◌else◌}
use Rattle.std.specs.Borrow.{Bor}
use Rattle.lalrpop_grammar_symbols.specs.Symbols.{Text, WrittenSymbol, Sym}
use Rattle.lalrpop_grammar.specs.WrittenGrammar.{Ty, Tys}
use Rattle.lalrpop_grammar_language.specs.Enabled.{has_text}
use Rattle.lalrpop_norm_tyinfer.specs.TypesByTable.{KnownNames, chosen_symbols}
use Rattle.lalrpop_norm_tyinfer.specs.Equations.{TypeSource}

-- the name, where a rule has it
abbrev pub rule_of_name : KnownNames → Text → List Text
rule_of_name k n = if has_text n k.rules then n ∷ [] else []

-- the rule that the symbol is, maybe named or chosen
abbrev pub rules_in_symbol : KnownNames → WrittenSymbol → List Text
rules_in_symbol k (Sym.nonterminal p n) = rule_of_name k n
rules_in_symbol k (Sym.ambiguous_id p n) = rule_of_name k n
rules_in_symbol k (Sym.choose p x) = rules_in_symbol k x
rules_in_symbol k (Sym.name p mutable n x) = rules_in_symbol k x
rules_in_symbol k (Sym.terminal p t) = []
rules_in_symbol k (Sym.macro p n args) = []
rules_in_symbol k (Sym.expr p xs) = []
rules_in_symbol k (Sym.repeat p op x) = []
rules_in_symbol k (Sym.lookahead p) = []
rules_in_symbol k (Sym.lookbehind p) = []
rules_in_symbol k (Sym.error p) = []

abbrev mutual
  pub rules_in_type : KnownNames → Ty → List Text
  rules_in_type k (Ty.tuple ys) = rules_in_types k ys
  rules_in_type k (Ty.nominal path ys) = rules_in_types k ys
  rules_in_type k (Ty.id n) = []
  rules_in_type k (Ty.of_symbol x) = rules_in_symbol k x
  rules_in_type k (Ty.ref lifetime mutable y) = rules_in_type k y
  rules_in_type k (Ty.opaque text) = []

  pub rules_in_types : KnownNames → Tys → List Text
  rules_in_types k Tys.none = []
  rules_in_types k (Tys.more y ys) = rules_in_type k y ++ rules_in_types k ys

-- of an alternative those among the symbols that count
abbrev pub rules_in_source : KnownNames → TypeSource → List Text
rules_in_source k (TypeSource.declared y) = rules_in_type k y
rules_in_source k (TypeSource.symbols xs) = flat_map (rules_in_symbol k) (chosen_symbols xs)

abbrev pub names_found : List (Bor Text) → List Text
names_found = map (λ n. n.now)
