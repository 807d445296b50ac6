-- The names of a grammar, in reading order, each with the span that it is told at: a rule's for its name, its parameters
-- and the names that its type gives; a symbol's for a name in it; a condition's; an entry's of a match block for the name that
-- it maps to. An extern block's conversions have no span of their own, so the block's stands for their names.
use Rattle.std.specs.Prelude.{Bool, true, false, ◌==◌, ◌&&◌, List, []}
use Rattle.std.specs.Prelude.{◌∷◌, ◌++◌, Option, Some, None, map, flat_map, if◌then◌else◌}
use Rattle.lalrpop_grammar_symbols.specs.Symbols.{Text, TextSpan, Terminal, Sym, Syms, syms, WrittenSymbol}
use Rattle.lalrpop_grammar_symbols.specs.Subsymbols.{subsymbols_of}
use Rattle.lalrpop_grammar.specs.WrittenGrammar.{Ty, Tys, Condition, Alternative, Rule, WrittenEntry, Conversion, EnumToken}
use Rattle.lalrpop_grammar.specs.WrittenGrammar.{WrittenItem}

-- a name, and where it is told
abbrev pub SpannedName : Type 0
SpannedName = Text × TextSpan

-- the names, all told there
abbrev pub at_span : TextSpan → List Text → List SpannedName
at_span p names = map (λ n. (n, p)) names

-- the name in a terminal
abbrev pub name_in_terminal : Terminal → List Text
name_in_terminal (Terminal.bare n) = n ∷ []
name_in_terminal (Terminal.quoted t) = []
name_in_terminal (Terminal.regex t) = []
name_in_terminal Terminal.error = []

-- the name that the symbol itself has: what it names, or its label
abbrev pub own_name : WrittenSymbol → List SpannedName
own_name (Sym.ambiguous_id p n) = (n, p) ∷ []
own_name (Sym.nonterminal p n) = (n, p) ∷ []
own_name (Sym.terminal p t) = at_span p (name_in_terminal t)
own_name (Sym.macro p n args) = (n, p) ∷ []
own_name (Sym.name p mutable n x) = (n, p) ∷ []
own_name (Sym.expr p xs) = []
own_name (Sym.repeat p op x) = []
own_name (Sym.choose p x) = []
own_name (Sym.lookahead p) = []
own_name (Sym.lookbehind p) = []
own_name (Sym.error p) = []

abbrev pub names_in_symbols : Syms TextSpan → List SpannedName
names_in_symbols xs = flat_map own_name (subsymbols_of xs)

-- the names in a declared type, where the rule stands at that span
abbrev mutual
  pub names_in_type : TextSpan → Ty → List SpannedName
  names_in_type p (Ty.tuple ts) = names_in_types p ts
  names_in_type p (Ty.nominal path ts) = names_in_types p ts
  names_in_type p (Ty.id n) = (n, p) ∷ []
  names_in_type p (Ty.of_symbol s) = names_in_symbols (Syms.more s Syms.none)
  names_in_type p (Ty.ref lifetime mutable t) = names_in_type p t
  names_in_type p (Ty.opaque text) = []

  pub names_in_types : TextSpan → Tys → List SpannedName
  names_in_types p Tys.none = []
  names_in_types p (Tys.more t ts) = names_in_type p t ++ names_in_types p ts

abbrev pub names_in_declared : TextSpan → Option Ty → List SpannedName
names_in_declared p None = []
names_in_declared p (Some t) = names_in_type p t

abbrev pub name_in_condition : Option Condition → List SpannedName
name_in_condition None = []
name_in_condition (Some c) = (c.parameter, c.place) ∷ []

unfoldable pub names_in_alternative : Alternative → List SpannedName
names_in_alternative a = names_in_symbols (syms a.expr) ++ name_in_condition a.condition

unfoldable pub names_in_rule : Rule → List SpannedName
names_in_rule r =
    (r.name, r.span)
    ∷ (at_span r.span r.parameters ++ (names_in_declared r.span r.declared ++ flat_map names_in_alternative r.alternatives))

-- the bare name that an entry maps to
abbrev pub name_in_entry : WrittenEntry → List SpannedName
name_in_entry (WrittenEntry.mapped l t p) = at_span p (name_in_terminal t)
name_in_entry (WrittenEntry.catch_all p) = []
name_in_entry (WrittenEntry.unmapped l p) = []
name_in_entry (WrittenEntry.skip l p) = []

-- the names in a group of entries
unfoldable pub names_in_group : List WrittenEntry → List SpannedName
names_in_group entries = flat_map name_in_entry entries

-- the bare name that a conversion begins with
abbrev pub name_in_conversion : TextSpan → Conversion → List SpannedName
name_in_conversion p c = at_span p (name_in_terminal c.from)

abbrev pub names_in_conversions : TextSpan → List Conversion → List SpannedName
names_in_conversions p conversions = flat_map (name_in_conversion p) conversions

abbrev pub names_in_enum : TextSpan → Option EnumToken → List SpannedName
names_in_enum p None = []
names_in_enum p (Some e) = names_in_conversions p e.conversions

unfoldable pub names_in_item : WrittenItem → List SpannedName
names_in_item (WrittenItem.nonterminal r) = names_in_rule r
names_in_item (WrittenItem.match_token groups place) = flat_map names_in_group groups
names_in_item (WrittenItem.extern_token block) = names_in_enum block.span block.enum_token
names_in_item (WrittenItem.intern_token entries) = []
names_in_item (WrittenItem.import text) = []

-- the name begins with the prefix
abbrev pub has_prefix : Text → Text → Bool
has_prefix [] name = true
has_prefix (c ∷ prefix) [] = false
has_prefix (c ∷ prefix) (d ∷ name) = (c == d) && has_prefix prefix name

-- the span of the first name that begins with the prefix
abbrev pub first_reserved : Text → List SpannedName → Option TextSpan
first_reserved prefix [] = None
first_reserved prefix (n ∷ ns) = if has_prefix prefix n.0 then Some n.1 else first_reserved prefix ns
