-- Named symbols where none may stand: beside a chosen symbol in an alternative's own list, in a group, at any depth, and
-- anywhere in an alternative without user code.
use Rattle.std.specs.Prelude.{Bool, true, false, List, [], ◌∷◌, ◌++◌, flat_map, if◌then◌else◌}
use Rattle.std.specs.List.{list_any}
use Rattle.lalrpop_grammar_symbols.specs.Symbols.{TextSpan, Sym, Syms, syms, WrittenSymbol}
use Rattle.lalrpop_grammar_symbols.specs.Subsymbols.{subsymbols_of}
use Rattle.lalrpop_grammar.specs.WrittenGrammar.{Action, Alternative, Rule, WrittenItem, rules_of}

-- where the symbol stands, if it is a named one
abbrev pub label_span : WrittenSymbol → List TextSpan
label_span (Sym.name p mutable n x) = p ∷ []
label_span (Sym.expr p xs) = []
label_span (Sym.ambiguous_id p n) = []
label_span (Sym.nonterminal p n) = []
label_span (Sym.terminal p t) = []
label_span (Sym.macro p n args) = []
label_span (Sym.repeat p op x) = []
label_span (Sym.choose p x) = []
label_span (Sym.lookahead p) = []
label_span (Sym.lookbehind p) = []
label_span (Sym.error p) = []

-- the named symbols, at any depth
abbrev pub labels_in : Syms TextSpan → List TextSpan
labels_in xs = flat_map label_span (subsymbols_of xs)

-- those in the symbol, if it is a group
abbrev pub labels_in_group : WrittenSymbol → List TextSpan
labels_in_group (Sym.expr p xs) = labels_in xs
labels_in_group (Sym.name p mutable n x) = []
labels_in_group (Sym.ambiguous_id p n) = []
labels_in_group (Sym.nonterminal p n) = []
labels_in_group (Sym.terminal p t) = []
labels_in_group (Sym.macro p n args) = []
labels_in_group (Sym.repeat p op x) = []
labels_in_group (Sym.choose p x) = []
labels_in_group (Sym.lookahead p) = []
labels_in_group (Sym.lookbehind p) = []
labels_in_group (Sym.error p) = []

abbrev pub labels_in_groups : Syms TextSpan → List TextSpan
labels_in_groups xs = flat_map labels_in_group (subsymbols_of xs)

abbrev pub is_choice : WrittenSymbol → Bool
is_choice (Sym.choose p x) = true
is_choice (Sym.name p mutable n x) = false
is_choice (Sym.expr p xs) = false
is_choice (Sym.ambiguous_id p n) = false
is_choice (Sym.nonterminal p n) = false
is_choice (Sym.terminal p t) = false
is_choice (Sym.macro p n args) = false
is_choice (Sym.repeat p op x) = false
is_choice (Sym.lookahead p) = false
is_choice (Sym.lookbehind p) = false
is_choice (Sym.error p) = false

-- the named symbols of a list that has a chosen one
abbrev pub labels_beside_choice : List WrittenSymbol → List TextSpan
labels_beside_choice xs = if list_any is_choice xs then flat_map label_span xs else []

abbrev pub has_user_code : Action → Bool
has_user_code (Action.user code) = true
has_user_code (Action.fallible code) = true
has_user_code Action.default = false
has_user_code Action.lookahead = false
has_user_code Action.lookbehind = false

-- the named symbols of an alternative without user code
abbrev pub labels_without_code : Alternative → List TextSpan
labels_without_code a = if has_user_code a.action then [] else labels_in (syms a.expr)

unfoldable pub misplaced_in_alternative : Alternative → List TextSpan
misplaced_in_alternative a = labels_beside_choice a.expr ++ (labels_in_groups (syms a.expr) ++ labels_without_code a)

unfoldable pub misplaced_in_rule : Rule → List TextSpan
misplaced_in_rule r = flat_map misplaced_in_alternative r.alternatives

abbrev pub misplaced_labels : List WrittenItem → List TextSpan
misplaced_labels items = flat_map misplaced_in_rule (rules_of items)
