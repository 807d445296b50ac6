-- Computed examples of what lowering makes, and answers that are refused.
use Prim.Native.String.{String}
use Rattle.std.specs.Prelude.{IsSomeAnd, is_some, Bool, Some, None, codes, flat_map, slice_get, option_map}
use Rattle.std.proofs.Common.{◌≡◌, ◌∙◌, ℕ, List, [], ◌∷◌, ◌++◌, refl, ap, sym, subst, inl, inr, true, false}
use Rattle.std.proofs.Common.{arith}
use Rattle.lalrpop_grammar_symbols.specs.Symbols.{Sym, Terminal, Text, WrittenSymbol}
use Rattle.lalrpop_grammar_symbols.specs.declared.names.NonterminalString.{NonterminalString}
use Rattle.lalrpop_grammar.specs.Views.{origin_view}
use Rattle.lalrpop_grammar_symbols.specs.declared.terminal.TerminalLiteral.TheVariants as literal
use Rattle.lalrpop_grammar_symbols.specs.declared.terminal.TerminalString.{TerminalString}
use Rattle.lalrpop_grammar_symbols.specs.declared.terminal.TerminalString.TheVariants as terminal
use Rattle.lalrpop_grammar_symbols.specs.contracts.terminal.TerminalStringOrd.TheImpl as terminal_order
use Rattle.lalrpop_grammar_symbols.specs.Views.{terminal_view}
use Rattle.lalrpop_grammar_repr.specs.Maps.{at_name, at_terminal}
use Rattle.lalrpop_norm_lower.specs.Lowered.{IsLowerable, AreChoicesInOrder, AreListedStarts, AreLoweredAlternatives, HasStartNamed}
use Rattle.lalrpop_norm_lower.specs.Lowered.{IsLoweredAlternative}
use Rattle.lalrpop_grammar.specs.WrittenGrammar.{Action, Alternative, Grammar, Origin, Rule, WrittenItem, rules_of}
use Rattle.lalrpop_grammar_language.specs.Among.{Among}
use Rattle.lalrpop_grammar_language.specs.Enabled.{Choice, EnabledRule, IsRule}
use Rattle.lalrpop_grammar_language.specs.Levels.{has_levels}
use Rattle.lalrpop_grammar_language.specs.Expansion.{GrammarSymbol}
use Rattle.lalrpop_grammar_language.proofs.WrittenTreeLemmas.{finds, grammar, here, lit}
use Rattle.lalrpop_grammar_repr.specs.declared.production.Production.{Production}
use Rattle.lalrpop_grammar_repr.specs.declared.types.Types.{Types}
use Rattle.lalrpop_grammar.specs.TypeReprs.{named_type}
use Rattle.lalrpop_grammar.specs.declared.types.type_repr.TypeRepr.{TypeRepr}
use Rattle.lalrpop_grammar.specs.declared.types.type_repr.TypeRepr.TheVariants as types
use Rattle.lalrpop_norm_theory.specs.Types.{GroundType, text_type}
use Rattle.lalrpop_norm_tyinfer.specs.GroundViews.{type_repr_view}
use Rattle.lalrpop_norm_tyinfer.specs.TerminalTypes.{grammar_terminals}
use Rattle.lalrpop_norm_tyinfer.proofs.GroundLemmas.{view-nominal, view-ref}
use Rattle.lalrpop_norm_lower.proofs.OrderLemmas.{equal_terminals}
use Rattle.lalrpop_norm_lower.proofs.PutLemmas.{found_among}
use Rattle.lalrpop_norm_theory.specs.Between.{grammar_between, rule_between}
use Rattle.lalrpop_norm_theory.specs.Premises.{IsExpanded, IsExpandedChoice, IsExpandedSymbol}
use Rattle.lalrpop_norm_theory.specs.Productions.{IsOriginBefore, NamedProduction}
use Rattle.lalrpop_norm_tyinfer.specs.TypeFaults.{nonterminal_of}
use Rattle.lalrpop_norm_lower.specs.Definitions.{definition_of}
use Rattle.lalrpop_norm_lower.specs.LoweredLists.{count_actions, gets_start, lowered_definitions, lowered_entries, lowered_origins}
use Rattle.lalrpop_norm_lower.specs.declared.lowering.Normalized.{Normalized}
use Rattle.lalrpop_norm_lower.proofs.NumberedLemmas.{entry_productions}

-- a rule between passes
abbrev rule_named : Bool → String → List Alternative → WrittenItem
rule_named public n alternatives = WrittenItem.nonterminal (record {
  public = public;
  name = codes n;
  attributes = [];
  span = here;
  parameters = [];
  declared = None;
  alternatives = alternatives;
})

abbrev acting : Action → Origin → List WrittenSymbol → Alternative
acting a o xs = record { span = here; expr = xs; condition = None; action = a; attributes = []; origin = o }

abbrev by : Origin → List WrittenSymbol → Alternative
by = acting Action.default

-- alternatives at these places of L
abbrev at : ℕ → Origin
at i = Origin.alternative (codes "L") [] i

abbrev to_rule : String → WrittenSymbol
to_rule n = Sym.nonterminal here (codes n)

abbrev nt : String → GrammarSymbol Text
nt n = GrammarSymbol.nonterminal (codes n)

abbrev word : String → GrammarSymbol Text
word s = GrammarSymbol.terminal (Terminal.quoted (codes s))

abbrev production : String → List (GrammarSymbol Text) → ℕ → NamedProduction
production n xs k = record { nonterminal = codes n; symbols = xs; action = k }

abbrev productions_made : Grammar → List NamedProduction
productions_made w = flat_map entry_productions (lowered_entries w.prefix (rules_of w.items))

-- pub L = "a"*, expanded
abbrev list : Grammar
list = grammar (rule_named true "L" (by (at 0) (to_rule "\"a\"*" ∷ []) ∷ [])
    ∷ rule_named false "\"a\"*" (by Origin.star_none [] ∷ by Origin.star_some (to_rule "\"a\"+" ∷ []) ∷ [])
    ∷ rule_named false "\"a\"+" (by Origin.plus_one (lit "a" ∷ [])
    ∷ by Origin.plus_more (to_rule "\"a\"+" ∷ lit "a" ∷ []) ∷ []) ∷ [])

-- six productions with six actions, the start's first
six_productions : productions_made list ≡ production "__L" (nt "L" ∷ []) 0 ∷ production "L" (nt "\"a\"*" ∷ []) 1
    ∷ production "\"a\"*" [] 2 ∷ production "\"a\"*" (nt "\"a\"+" ∷ []) 3 ∷ production "\"a\"+" (word "a" ∷ []) 4
    ∷ production "\"a\"+" (nt "\"a\"+" ∷ word "a" ∷ []) 5 ∷ []
six_productions = refl

six_origins : lowered_origins (rules_of list.items) ≡ Origin.start ∷ at 0 ∷ Origin.star_none ∷ Origin.star_some ∷ Origin.plus_one
    ∷ Origin.plus_more ∷ []
six_origins = refl

six_actions : count_actions (rules_of list.items) ≡ 6
six_actions = refl

-- an empty grammar has none
nothing_made : productions_made (grammar []) ≡ []
nothing_made = refl

-- a private rule has no start; names and choices leave no trace
abbrev private : Grammar
private = grammar (rule_named false "L" (by (at 0) (Sym.choose here (lit "a") ∷ Sym.name here false (codes "x") (to_rule "L") ∷ [])
    ∷ []) ∷ [])

one_production : productions_made private ≡ production "L" (word "a" ∷ nt "L" ∷ []) 0 ∷ []
one_production = refl

-- two equal alternatives are two productions, with actions of their own
abbrev alike : Grammar
alike = grammar (rule_named true "L" (by (at 0) (lit "a" ∷ [])
    ∷ acting (Action.fallible (codes "f()")) (at 1) (lit "a" ∷ []) ∷ []) ∷ [])

two_alike : productions_made alike ≡ production "__L" (nt "L" ∷ []) 0 ∷ production "L" (word "a" ∷ []) 1
    ∷ production "L" (word "a" ∷ []) 2 ∷ []
two_alike = refl

-- each action has its rule's type; only the second alternative's may fail
abbrev types_of_L : List (NonterminalString × TypeRepr)
types_of_L = (nonterminal_of (codes "L"), named_type (codes "T")) ∷ []

three_definitions : lowered_definitions types_of_L (rules_of alike.items) ≡ definition_of (named_type (codes "T")) Action.default
    ∷ definition_of (named_type (codes "T")) Action.default
    ∷ definition_of (named_type (codes "T")) (Action.fallible (codes "f()")) ∷ []
three_definitions = refl

-- what lowering rests on can be had

abbrev choice_at : ℕ → Choice
choice_at i = record { origin = at i; expr = []; condition = None; action = Action.default; attributes = [] }

two_ordered : AreChoicesInOrder (choice_at 0 ∷ choice_at 1 ∷ [])
two_ordered = (λ c i. later c i, ((λ c i. absurd i), tt))
  where
    later : (c : Choice) → Among (choice_at 1 ∷ []) c → IsOriginBefore (at 0) c.origin
    later c (inl e) = subst (λ (d : Choice). IsOriginBefore (at 0) d.origin) e (omega arith)
    later c (inr i) = absurd i

-- the one rule of a small grammar
abbrev only_rule : EnabledRule
only_rule = rule_between (record {
  public = true;
  name = codes "L";
  attributes = [];
  span = here;
  parameters = [];
  declared = None;
  alternatives = by (at 0) (lit "a" ∷ to_rule "L" ∷ []) ∷ [];
})

abbrev small : Grammar
small = grammar (rule_named true "L" (by (at 0) (lit "a" ∷ to_rule "L" ∷ []) ∷ []) ∷ [])

-- a rule that names itself is expanded
small_expanded : IsExpanded (grammar_between finds small)
small_expanded = record {
  rules = λ r i. rules r i;
  no_macros = λ r i. no_macros r i;
  no_levels = λ r i. no_levels r i;
  choices = λ r c i j. choices r c i j;
}
  where
    rules : (r : EnabledRule) → Among (only_rule ∷ []) r → IsRule (grammar_between finds small) r.name r
    rules r (inl e) = subst (λ (q : EnabledRule). IsRule (grammar_between finds small) q.name q) e refl
    rules r (inr i) = absurd i

    no_macros : (r : EnabledRule) → Among (only_rule ∷ []) r → r.parameters ≡ []
    no_macros r (inl e) = ap (λ (q : EnabledRule). q.parameters) (sym e)
    no_macros r (inr i) = absurd i

    no_levels : (r : EnabledRule) → Among (only_rule ∷ []) r → has_levels r ≡ false
    no_levels r (inl e) = ap has_levels (sym e)
    no_levels r (inr i) = absurd i

    symbols : (x : WrittenSymbol) → Among (lit "a" ∷ to_rule "L" ∷ []) x → IsExpandedSymbol (grammar_between finds small) x
    symbols x (inl e) = subst (IsExpandedSymbol (grammar_between finds small)) e tt
    symbols x (inr (inl e)) = subst (IsExpandedSymbol (grammar_between finds small)) e (only_rule, refl)
    symbols x (inr (inr i)) = absurd i

    one_choice : (c : Choice) → Among only_rule.choices c → IsExpandedChoice (grammar_between finds small) c
    one_choice c (inl e) =
        subst (IsExpandedChoice (grammar_between finds small)) e (record { unconditional = refl; symbols = λ x k. symbols x k })
    one_choice c (inr i) = absurd i

    choices : (r : EnabledRule) (c : Choice) → Among (only_rule ∷ []) r → Among r.choices c
        → IsExpandedChoice (grammar_between finds small) c
    choices r c (inl e) j = one_choice c (subst (λ (q : EnabledRule). Among q.choices c) (sym e) j)
    choices r c (inr i) j = absurd i

-- the types that it may be given: a terminal's is a text's
abbrev terminal_a : TerminalString
terminal_a = terminal.Literal (literal.Quoted (codes "a"))

abbrev text_reference : TypeRepr
text_reference = types.Ref (Some (codes "'input")) false (named_type (codes "str"))

abbrev small_types : Types
small_types = record { terminal_types = (terminal_a, text_reference) ∷ []; nonterminal_types = types_of_L }

is_text : type_repr_view text_reference ≡ text_type
is_text =
    view-ref (Some (codes "'input")) false (named_type (codes "str"))
    ∙ ap (λ t. GroundType.ref (Some (codes "'input")) false t) (view-nominal (codes "str") [])

-- the terminal that is seen so
only_a : (t : TerminalString) → Terminal.quoted (codes "a") ≡ terminal_view t → terminal_a ≡ t
only_a (terminal.Literal (literal.Quoted s)) e =
    let same : codes "a" ≡ s = cc in ap (λ x. terminal.Literal (literal.Quoted x)) same
only_a (terminal.Literal (literal.Regex s)) e = absurd (let wrong : ⊥ = cc in wrong)
only_a (terminal.Bare n) e = absurd (let wrong : ⊥ = cc in wrong)
only_a terminal.Error e = absurd (let wrong : ⊥ = cc in wrong)

-- so what lowering rests on can be met
small_lowerable : IsLowerable finds small small_types
small_lowerable = record {
  expanded = small_expanded;
  ordered = λ r i. ordered r i;
  free_prefix = λ r n i e. free_prefix r n i e;
  terminals = record { typed = λ t i. typed t i; only = λ t u e. only t u e };
  typed = λ r i. rule_typed r i;
}
  where
    ordered : (r : EnabledRule) → Among (only_rule ∷ []) r → AreChoicesInOrder r.choices
    ordered r (inl e) = subst (λ (q : EnabledRule). AreChoicesInOrder q.choices) e ((λ c i. absurd i), tt)
    ordered r (inr i) = absurd i

    free_prefix : (r : Rule) (n : Text) → Among (rules_of small.items) r → r.name ≡ codes "__" ++ n → ⊥
    free_prefix r n (inl e) f =
        let same : codes "L" ≡ codes "__" ++ n = ap (λ (q : Rule). q.name) e ∙ f in
        let byte : ◌≡◌ {A = ℕ} 76 95 = cc in omega (arith, byte)
    free_prefix r n (inr i) f = absurd i

    typed : (t : TerminalString) → Among (grammar_terminals small) (terminal_view t)
        → IsSomeAnd (at_terminal t small_types.terminal_types) (λ u. type_repr_view u ≡ text_type)
    typed t (inl e) =
        subst (λ x. IsSomeAnd (at_terminal x small_types.terminal_types) (λ u. type_repr_view u ≡ text_type)) (only_a t e) is_text
    typed t (inr i) = absurd i

    only : (t : TerminalString) (u : TypeRepr) → at_terminal t small_types.terminal_types ≡ Some u
        → Among (grammar_terminals small) (terminal_view t)
    only t u e = go (found_among (terminal_order.ghosts).cmp equal_terminals small_types.terminal_types t u e)
      where
        go : Among small_types.terminal_types (t, u) → Among (grammar_terminals small) (terminal_view t)
        go (inl same) = inl (ap (λ (x : TerminalString × TypeRepr). terminal_view x.0) same)
        go (inr i) = absurd i

    rule_typed : (r : Rule) → Among (rules_of small.items) r
        → is_some (at_name (nonterminal_of r.name) small_types.nonterminal_types) ≡ true
    rule_typed r (inl e) =
        ap (λ (q : Rule). is_some (at_name (nonterminal_of q.name) small_types.nonterminal_types)) (sym e)
    rule_typed r (inr i) = absurd i

-- what is refused

-- one production for two alternatives
merged_refused : (made : Normalized) (table : List (NonterminalString × TypeRepr)) (r : Rule) (a b : Alternative) (p : Production)
    → AreLoweredAlternatives made table r (a ∷ b ∷ []) (p ∷ []) → ⊥
merged_refused made table r a b p h = h.1

-- an origin of the alternative before
shifted_refused : (made : Normalized) (table : List (NonterminalString × TypeRepr)) (r : Rule) (a : Alternative) (p : Production)
    → a.origin ≡ at 1 → option_map origin_view (slice_get made.origins p.action.0) ≡ Some (at 0)
    → IsLoweredAlternative made table r a p → ⊥
shifted_refused made table r a p e f h =
    let same : Some (at 0) ≡ Some (at 1) = sym f ∙ h.origin_is ∙ ap Some e in
    let place : ◌≡◌ {A = ℕ} 0 1 = cc in omega (arith, place)

-- a start for a private rule
private_start_refused : (start : NonterminalString)
    → AreListedStarts private ((nonterminal_of (codes "L"), start) ∷ []) → ⊥
private_start_refused start h = go (h.no_other (nonterminal_of (codes "L")) start refl)
  where
    no_start : (r : Rule) → Among (rules_of private.items) r → gets_start r ≡ true → ⊥
    no_start r (inl e) f = let wrong : false ≡ true = ap gets_start e ∙ f in cc
    no_start r (inr i) f = absurd i

    go : (r : Rule) × HasStartNamed private r start × (nonterminal_of (codes "L") ≡ nonterminal_of r.name) → ⊥
    go w = no_start w.0 w.1.rule w.1.starts
