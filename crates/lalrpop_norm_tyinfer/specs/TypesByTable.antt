-- Types by a table that has those of some rules: of symbols, of written types, of alternatives.
use Rattle.std.specs.Prelude.{Bool, true, false, List, [], ◌∷◌, Option, Some, None, option_map, map, filter, if◌then◌else◌}
use Rattle.std.specs.Prelude.{not, ◌||◌}
use Rattle.std.specs.List.{list_any}
use Rattle.lalrpop_grammar_symbols.specs.Symbols.{Text, Terminal, WrittenSymbol, Sym}
use Rattle.lalrpop_grammar.specs.WrittenGrammar.{Ty, Tys, Grammar, rules_of}
use Rattle.lalrpop_grammar_language.specs.Enabled.{has_text, bares_of}
use Rattle.lalrpop_norm_theory.specs.Types.{GroundType, GroundTypes, text_type}
use Rattle.lalrpop_norm_tyinfer.specs.GroundViews.{ground_types}

-- what names stand for: the names of rules, and the mapped bare names
pub record KnownNames : Type 0 where
  pub rules : List Text
  pub bares : List Text

abbrev pub known_names : Grammar → KnownNames
known_names g = record { rules = map (λ r. r.name) (rules_of g.items); bares = bares_of g.items }

-- the types of rules, by name
abbrev pub RuleTypes : Type 0
RuleTypes = Text → Option GroundType

abbrev pub bare_ground_type : KnownNames → Text → Option GroundType
bare_ground_type k n = if has_text n k.bares then Some text_type else None

-- a rule hides a mapped bare name of its name
abbrev pub name_ground_type : KnownNames → RuleTypes → Text → Option GroundType
name_ground_type k table n = if has_text n k.rules then table n else bare_ground_type k n

abbrev pub terminal_ground_type : KnownNames → Terminal → Option GroundType
terminal_ground_type k (Terminal.quoted t) = Some text_type
terminal_ground_type k (Terminal.regex t) = Some text_type
terminal_ground_type k (Terminal.bare n) = bare_ground_type k n
terminal_ground_type k Terminal.error = None

-- a rule or a terminal, maybe named or chosen; no other symbol is left that could have a type
abbrev pub symbol_ground_type : KnownNames → RuleTypes → WrittenSymbol → Option GroundType
symbol_ground_type k table (Sym.terminal p t) = terminal_ground_type k t
symbol_ground_type k table (Sym.nonterminal p n) = name_ground_type k table n
symbol_ground_type k table (Sym.ambiguous_id p n) = name_ground_type k table n
symbol_ground_type k table (Sym.choose p x) = symbol_ground_type k table x
symbol_ground_type k table (Sym.name p mutable n x) = symbol_ground_type k table x
symbol_ground_type k table (Sym.macro p n args) = None
symbol_ground_type k table (Sym.expr p xs) = None
symbol_ground_type k table (Sym.repeat p op x) = None
symbol_ground_type k table (Sym.lookahead p) = None
symbol_ground_type k table (Sym.lookbehind p) = None
symbol_ground_type k table (Sym.error p) = None

-- one more, where it and the others are there
abbrev pub with_ground_type : Option GroundType → Option (List GroundType) → Option (List GroundType)
with_ground_type None ts = None
with_ground_type (Some t) None = None
with_ground_type (Some t) (Some ts) = Some (t ∷ ts)

-- all of them, where each is there
abbrev pub each_ground_type : List (Option GroundType) → Option (List GroundType)
each_ground_type [] = Some []
each_ground_type (t ∷ ts) = with_ground_type t (each_ground_type ts)

abbrev pub is_chosen_symbol : WrittenSymbol → Bool
is_chosen_symbol (Sym.choose p x) = true
is_chosen_symbol (Sym.terminal p t) = false
is_chosen_symbol (Sym.nonterminal p n) = false
is_chosen_symbol (Sym.ambiguous_id p n) = false
is_chosen_symbol (Sym.name p mutable n x) = false
is_chosen_symbol (Sym.macro p n args) = false
is_chosen_symbol (Sym.expr p xs) = false
is_chosen_symbol (Sym.repeat p op x) = false
is_chosen_symbol (Sym.lookahead p) = false
is_chosen_symbol (Sym.lookbehind p) = false
is_chosen_symbol (Sym.error p) = false

-- the chosen symbols, or all where none is chosen
abbrev pub chosen_symbols : List WrittenSymbol → List WrittenSymbol
chosen_symbols xs = if list_any is_chosen_symbol xs then filter is_chosen_symbol xs else xs

-- whether the symbol counts, where the chosen ones alone do or all
abbrev pub counts_for : Bool → WrittenSymbol → Bool
counts_for chosen_only x = not chosen_only || is_chosen_symbol x

-- one type is itself, several are a tuple, and none the empty one
abbrev pub tuple_of_types : List GroundType → GroundType
tuple_of_types [] = GroundType.tuple GroundTypes.none
tuple_of_types (t ∷ []) = t
tuple_of_types (t ∷ u ∷ ts) = GroundType.tuple (ground_types (t ∷ u ∷ ts))

-- the type that the symbols of an alternative without user code give
abbrev pub symbols_ground_type : KnownNames → RuleTypes → List WrittenSymbol → Option GroundType
symbols_ground_type k table xs =
    option_map tuple_of_types (each_ground_type (map (symbol_ground_type k table) (chosen_symbols xs)))

-- the type that a written type stands for, in a rule without parameters
abbrev mutual
  pub written_ground_type : KnownNames → RuleTypes → Ty → Option GroundType
  written_ground_type k table (Ty.tuple ys) =
      option_map (λ ts. GroundType.tuple (ground_types ts)) (written_ground_types k table ys)
  written_ground_type k table (Ty.nominal path ys) =
      option_map (λ ts. GroundType.nominal path (ground_types ts)) (written_ground_types k table ys)
  written_ground_type k table (Ty.id n) = Some (GroundType.nominal n GroundTypes.none)
  written_ground_type k table (Ty.of_symbol x) = symbol_ground_type k table x
  written_ground_type k table (Ty.ref lifetime mutable y) =
      option_map (λ t. GroundType.ref lifetime mutable t) (written_ground_type k table y)
  written_ground_type k table (Ty.opaque text) = Some (GroundType.opaque text)

  pub written_ground_types : KnownNames → RuleTypes → Tys → Option (List GroundType)
  written_ground_types k table Tys.none = Some []
  written_ground_types k table (Tys.more y ys) =
      with_ground_type (written_ground_type k table y) (written_ground_types k table ys)
