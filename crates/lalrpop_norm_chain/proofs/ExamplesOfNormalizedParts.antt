-- Computed examples of the parts of a normalized grammar.
use Rattle.std.specs.Fmt.{digits}
use Rattle.std.proofs.Common.{◌≡◌, ◌≢◌, ℕ, List, [], ◌∷◌, ◌++◌, refl, sym, ◌∙◌, subst, inl, inr, arith}
use Rattle.std.proofs.Common.{Bool, true, false, ap, ◌⊎◌, ◌↔◌, ◌<◌}
use Rattle.std.specs.Prelude.{Option, Some, None, IsSomeAnd, codes, slice_get}
use Rattle.std.proofs.lemmas.Bool.{true≢false}
use Rattle.lalrpop_grammar_symbols.specs.Texts.{escape_byte}
use Rattle.lalrpop_grammar_symbols.specs.Symbols.{Text, TextSpan, Closed, Closeds, Terminal}
use Rattle.lalrpop_grammar_symbols.specs.Views.{terminal_view}
use Rattle.lalrpop_grammar_symbols.specs.contracts.names.NonterminalStringOrd.TheImpl as name_order
use Rattle.lalrpop_grammar_symbols.specs.contracts.terminal.TerminalStringOrd.TheImpl as terminal_order
use Rattle.lalrpop_grammar_symbols.specs.declared.names.NonterminalString.{NonterminalString}
use Rattle.lalrpop_grammar_symbols.specs.declared.terminal.TerminalLiteral.TheVariants as literal
use Rattle.lalrpop_grammar_symbols.specs.declared.terminal.TerminalString.{TerminalString}
use Rattle.lalrpop_grammar_symbols.specs.declared.terminal.TerminalString.TheVariants as terminal
use Rattle.lalrpop_grammar.specs.WrittenGrammar.{Action, Attr, Origin, EntryMapping, InternEntry, Grammar, Ty, WrittenItem}
use Rattle.lalrpop_grammar_language.specs.Among.{Among}
use Rattle.lalrpop_grammar_language.specs.Enabled.{EnabledGrammar, EnabledRule, IsRule, enabled_grammar}
use Rattle.lalrpop_grammar_language.specs.Levels.{loosest}
use Rattle.lalrpop_grammar_language.specs.Expansion.{GrammarSymbol, Nonterminal, InExpansion, RightSide, WrittenLabel}
use Rattle.lalrpop_grammar_language.proofs.WrittenTreeLemmas.{here, lit, alt, grammar, finds}
use Rattle.lalrpop_norm_theory.proofs.ExpansionListLemmas.{reached-in, all-of}
use Rattle.lalrpop_grammar_repr.specs.Maps.{at_name, at_terminal}
use Rattle.lalrpop_grammar.specs.TypeReprs.{named_type}
use Rattle.lalrpop_grammar.specs.declared.types.type_repr.TypeRepr.{TypeRepr}
use Rattle.lalrpop_grammar.specs.declared.types.type_repr.TypeRepr.TheFolds.{fold-roll-TypeRepr}
use Rattle.lalrpop_grammar.specs.declared.types.type_repr.TypeRepr.TheOpen as layer
use Rattle.lalrpop_grammar.specs.declared.types.type_repr.TypeRepr.TheVariants as types
use Rattle.lalrpop_norm_theory.specs.Keys.{leveled_key_text}
use Rattle.lalrpop_norm_theory.specs.NamesByUse.{IsNamingByUse}
use Rattle.lalrpop_norm_theory.proofs.UsedListLemmas.{keys-by-use}
use Rattle.lalrpop_norm_theory.specs.Productions.{NamedProduction, AreProductions, StandsForLabel}
use Rattle.lalrpop_norm_theory.specs.Inlined.{IsInlined}
use Rattle.lalrpop_norm_theory.specs.Types.{GroundType, IsGrounded, text_type}
use Rattle.lalrpop_norm_theory.proofs.NamingListLemmas.{name_by, naming-is}
use Rattle.lalrpop_norm_theory.proofs.RowListLemmas.{expansion_productions}
use Rattle.lalrpop_norm_theory.proofs.DerivableTypeLemmas.{type-in-table}
use Rattle.lalrpop_norm_tyinfer.specs.GroundViews.{type_repr_view, ground_step, ground_nominal_step}
use Rattle.lalrpop_norm_tyinfer.specs.TerminalTypes.{AreTerminalTypes}
use Rattle.lalrpop_norm_tyinfer.specs.TypeFaults.{nonterminal_of}
use Rattle.lalrpop_norm_tyinfer.proofs.GroundLemmas.{view-nominal, view-ref}
use Rattle.lalrpop_norm_lower.specs.Definitions.{definition_of}
use Rattle.lalrpop_norm_lower.specs.NumberOrders.{AreNumberedAlong}
use Rattle.lalrpop_norm_lower.proofs.OrderLemmas.{equal_names, equal_terminals}
use Rattle.lalrpop_norm_lower.proofs.PutLemmas.{found_among}
use Rattle.lalrpop_norm_chain.specs.ActionOrders.{IsActionOrder}
use Rattle.lalrpop_norm_chain.specs.Actions.{ChoiceDoes}
use Rattle.lalrpop_norm_chain.specs.Spans.{HasOwnSpan, IsRuleSpan, IsWrittenSpan, StandsByChoice}
use Rattle.lalrpop_norm_chain.specs.Lowered.{LoweredGrammar, HasDefinition, IsTerminalOf}
use Rattle.lalrpop_norm_chain.specs.Normalized.{HasExpansionTypes, HasWrittenActions, HasWrittenAttributes}
use Rattle.lalrpop_norm_chain.specs.Normalized.{HasWrittenSpans}
use Rattle.lalrpop_norm_chain.specs.OwnAttributes.{HasOwnAttributes, IsRuleAttributes}

-- S: u8 = "a", where S is public
abbrev pub one : Grammar
one = grammar (WrittenItem.nonterminal (record {
  public = true;
  name = codes "S";
  attributes = [];
  span = here;
  parameters = [];
  declared = Some (Ty.opaque (codes "u8"));
  alternatives = alt (lit "a" ∷ []) ∷ [];
}) ∷ [])

-- its rules as they are enabled, with the nonterminals of its expansion
abbrev pub g : EnabledGrammar
g = enabled_grammar finds [] one

-- the rule's
abbrev pub s : Closed
s = Closed.call (codes "S") Closeds.none None

-- the start and the rule
abbrev pub nonterminals : List Nonterminal
nonterminals = Nonterminal.start (codes "S") ∷ Nonterminal.closed s ∷ []

-- the terminal
abbrev pub a : Terminal
a = Terminal.quoted (codes "a")

-- their names: `__S` and `S`
abbrev pub name_of : Nonterminal → Text
name_of = name_by (leveled_key_text g) (codes "__") []

-- the program's terminal
abbrev pub terminal_a : TerminalString
terminal_a = terminal.Literal (literal.Quoted (codes "a"))

-- `&'input str`
abbrev text_reference : TypeRepr
text_reference = types.Ref (Some (codes "'input")) false (named_type (codes "str"))

-- the lowered grammar of it
abbrev pub lowered : LoweredGrammar
lowered = record {
  prefix = codes "__";
  productions = record { nonterminal = codes "__S"; symbols = GrammarSymbol.nonterminal (codes "S") ∷ []; action = 0 }
      ∷ record { nonterminal = codes "S"; symbols = GrammarSymbol.terminal a ∷ []; action = 1 } ∷ [];
  spans = (record { nonterminal = codes "__S"; symbols = GrammarSymbol.nonterminal (codes "S") ∷ []; action = 0 }, here)
      ∷ (record { nonterminal = codes "S"; symbols = GrammarSymbol.terminal a ∷ []; action = 1 }, here) ∷ [];
  origins = Origin.start ∷ Origin.alternative (codes "S") [] 0 ∷ [];
  definitions = definition_of (types.Opaque (codes "u8")) Action.default
      ∷ definition_of (types.Opaque (codes "u8")) (Action.user (codes "()")) ∷ [];
  nonterminals = codes "S" ∷ codes "__S" ∷ [];
  places = (codes "S", here) ∷ (codes "__S", here) ∷ [];
  attributes = (codes "S", []) ∷ (codes "__S", []) ∷ [];
  starts = (codes "S", codes "__S") ∷ [];
  inlined = [];
  terminals = a ∷ [];
  types = (nonterminal_of (codes "S"), types.Opaque (codes "u8")) ∷ (nonterminal_of (codes "__S"), types.Opaque (codes "u8")) ∷ [];
  terminal_types = (terminal_a, text_reference) ∷ [];
  lalr = false;
  entries = record { precedence = 3; literal = a; mapping = EntryMapping.terminal a } ∷ [];
}

-- its productions
pub productions : AreProductions g name_of lowered.productions lowered.origins
unfolding digits escape_byte
productions = expansion_productions g 1 nonterminals name_of refl refl refl

-- the names are those of its expansion
pub naming : IsNamingByUse (leveled_key_text g) (codes "__") g name_of
unfolding digits
naming = record {
  naming = naming-is g (leveled_key_text g) (codes "__") [] 1 nonterminals refl refl refl;
  levels = tt;
  others = [];
  in_order = keys-by-use g [] refl;
  numbered = tt;
}

-- the rule is in the expansion
pub in_rule : InExpansion g (Nonterminal.closed s)
in_rule = reached-in g 0 (Nonterminal.closed s) (inr (inl refl))

-- the start is in the expansion
pub in_start : InExpansion g (Nonterminal.start (codes "S"))
in_start = reached-in g 0 (Nonterminal.start (codes "S")) (inl refl)

-- and nothing else is
pub no_other : (x : Nonterminal) → InExpansion g x → (Nonterminal.start (codes "S") ≡ x) ⊎ (Nonterminal.closed s ≡ x)
no_other x i = go (all-of g nonterminals refl x i)
  where
    go : Among nonterminals x → (Nonterminal.start (codes "S") ≡ x) ⊎ (Nonterminal.closed s ≡ x)
    go (inl e) = inl e
    go (inr (inl e)) = inr e
    go (inr (inr m)) = absurd m

-- the nonterminals are those of its expansion
pub names : (n : Text) → Among lowered.nonterminals n ↔ ((x : Nonterminal) × InExpansion g x × (name_of x ≡ n))
unfolding digits
names n = (there, λ u. here_too u.0 u.1 u.2)
  where
    there : Among lowered.nonterminals n → (x : Nonterminal) × InExpansion g x × (name_of x ≡ n)
    there (inl e) = (Nonterminal.closed s, in_rule, e)
    there (inr (inl e)) = (Nonterminal.start (codes "S"), in_start, e)
    there (inr (inr m)) = absurd m

    here_too : (x : Nonterminal) → InExpansion g x → name_of x ≡ n → Among lowered.nonterminals n
    here_too x i e = go (no_other x i)
      where
        go : (Nonterminal.start (codes "S") ≡ x) ⊎ (Nonterminal.closed s ≡ x) → Among lowered.nonterminals n
        go (inl f) = inr (inl (subst (λ (y : Nonterminal). name_of y ≡ n) (sym f) e))
        go (inr f) = inl (subst (λ (y : Nonterminal). name_of y ≡ n) (sym f) e)

abbrev start_of : Text → Text
start_of n = codes "__" ++ n

-- one start
pub starts : (n m : Text) → Among lowered.starts (n, m) ↔ (InExpansion g (Nonterminal.start n) × (m ≡ start_of n))
starts n m = (there, λ u. here_too u.0 u.1)
  where
    there : Among lowered.starts (n, m) → InExpansion g (Nonterminal.start n) × (m ≡ start_of n)
    there (inl e) = subst (λ (p : Text × Text). InExpansion g (Nonterminal.start p.0) × (p.1 ≡ start_of p.0)) e (in_start, refl)
    there (inr m) = absurd m

    here_too : InExpansion g (Nonterminal.start n) → m ≡ start_of n → Among lowered.starts (n, m)
    here_too i e = go (no_other (Nonterminal.start n) i)
      where
        go : (Nonterminal.start (codes "S") ≡ Nonterminal.start n) ⊎ (Nonterminal.closed s ≡ Nonterminal.start n) →
            Among lowered.starts (n, m)
        go (inl f) =
            let same : codes "S" ≡ n = cc in
            subst (λ (k : Text). Among lowered.starts (n, k)) (sym e) (inl (ap (λ (k : Text). (k, start_of k)) same))
        go (inr f) = cc

-- which stands on no right side
pub starts_alone : (n : Text) (p : NamedProduction) → InExpansion g (Nonterminal.start n) → Among lowered.productions p →
    Among p.symbols (GrammarSymbol.nonterminal (start_of n)) → ⊥
starts_alone n p i (inl e) m =
    go (subst (λ (q : NamedProduction). Among q.symbols (GrammarSymbol.nonterminal (start_of n))) (sym e) m)
  where
    go : Among (GrammarSymbol.nonterminal (codes "S") ∷ []) (GrammarSymbol.nonterminal (start_of n)) → ⊥
    go (inl f) = cc
    go (inr k) = absurd k
starts_alone n p i (inr (inr k)) m = absurd k
starts_alone n p i (inr (inl e)) m =
    go (subst (λ (q : NamedProduction). Among q.symbols (GrammarSymbol.nonterminal (start_of n))) (sym e) m)
  where
    go : Among (GrammarSymbol.terminal a ∷ []) (GrammarSymbol.nonterminal (start_of n)) → ⊥
    go (inl f) = cc
    go (inr k) = absurd k

abbrev first_inlined : List EnabledRule → Bool
first_inlined [] = false
first_inlined (r ∷ rs) = r.inlined

-- nothing is inlined
pub inlined : (x : Nonterminal) → InExpansion g x → Among lowered.inlined (name_of x) ↔ IsInlined g x
inlined x i = go (no_other x i)
  where
    no_rule : IsInlined g (Nonterminal.closed s) → Among lowered.inlined (name_of (Nonterminal.closed s))
    no_rule u = go u.0 u.1 u.2
      where
        go : (r : EnabledRule) → IsRule g (codes "S") r → r.inlined ≡ true → ⊥
        go r e f = let no : false ≡ r.inlined = ap first_inlined e in true≢false (sym f ∙ sym no)

    go : (Nonterminal.start (codes "S") ≡ x) ⊎ (Nonterminal.closed s ≡ x) → Among lowered.inlined (name_of x) ↔ IsInlined g x
    go (inl e) = subst (λ (y : Nonterminal). Among lowered.inlined (name_of y) ↔ IsInlined g y) e ((λ m. m), (λ m. m))
    go (inr e) = subst (λ (y : Nonterminal). Among lowered.inlined (name_of y) ↔ IsInlined g y) e ((λ m. absurd m), no_rule)

-- one terminal
pub terminals : (t : Terminal) → Among lowered.terminals t ↔ IsTerminalOf lowered t
terminals t = (there, here_too)
  where
    there : Among lowered.terminals t → IsTerminalOf lowered t
    there (inl e) = inr (record { precedence = 3; literal = a; mapping = EntryMapping.terminal a }, inl refl, ap EntryMapping.terminal e)
    there (inr m) = absurd m

    of_side : (p : NamedProduction) → Among lowered.productions p → Among p.symbols (GrammarSymbol.terminal t) →
        Among lowered.terminals t
    of_side p (inl e) m = go (subst (λ (q : NamedProduction). Among q.symbols (GrammarSymbol.terminal t)) (sym e) m)
      where
        go : Among (GrammarSymbol.nonterminal (codes "S") ∷ []) (GrammarSymbol.terminal t) → Among lowered.terminals t
        go (inl f) = cc
        go (inr k) = absurd k
    of_side p (inr (inr k)) m = absurd k
    of_side p (inr (inl e)) m = go (subst (λ (q : NamedProduction). Among q.symbols (GrammarSymbol.terminal t)) (sym e) m)
      where
        go : Among {A = GrammarSymbol Text} (GrammarSymbol.terminal a ∷ []) (GrammarSymbol.terminal t) → Among lowered.terminals t
        go (inl f) = inl (let e : a ≡ t = cc in e)
        go (inr k) = absurd k

    here_too : IsTerminalOf lowered t → Among lowered.terminals t
    here_too (inl u) = of_side u.0 u.1 u.2
    here_too (inr u) = go u.0 u.1 u.2
      where
        go : (e : InternEntry) → Among lowered.entries e → e.mapping ≡ EntryMapping.terminal t → Among lowered.terminals t
        go e (inl f) m =
            let same : EntryMapping.terminal a ≡ EntryMapping.terminal t = ap (λ (x : InternEntry). x.mapping) f ∙ m in
            inl (let e : a ≡ t = cc in e)
        go e (inr k) m = absurd k

abbrev u8 : GroundType
u8 = GroundType.opaque (codes "u8")

lowered_u8 : type_repr_view (types.Opaque (codes "u8")) ≡ u8
lowered_u8 =
    ap type_repr_view (sym (types.rolls-Opaque (codes "u8")))
    ∙ fold-roll-TypeRepr GroundType GroundType ground_step ground_nominal_step (layer.Opaque (codes "u8"))

typed : IsGrounded g s u8
typed = (1, (in_rule, inl (record { rule = _; is_rule = refl; written = Ty.opaque (codes "u8"); declared = refl; type_is = refl })))

one_type : (t : GroundType) → IsGrounded g s t → Some u8 ≡ Some t
one_type t h = type-in-table g ((s, u8) ∷ []) nonterminals refl s t h

abbrev first_loosest : List EnabledRule → Option ℕ
first_loosest [] = None
first_loosest (r ∷ rs) = loosest r

-- the type of the rule and of its start
pub expansion_types : HasExpansionTypes g name_of lowered.types
unfolding digits
expansion_types = record {
  typed = typed_each;
  once = once;
  starts = starts_too;
  no_other = no_other_type;
}
  where
    typed_each : (x : Closed) → InExpansion g (Nonterminal.closed x)
        → IsSomeAnd (at_name (nonterminal_of (name_of (Nonterminal.closed x))) lowered.types) (λ t. IsGrounded g x (type_repr_view t))
    typed_each x i = go (no_other (Nonterminal.closed x) i)
      where
        go : (Nonterminal.start (codes "S") ≡ Nonterminal.closed x) ⊎ (Nonterminal.closed s ≡ Nonterminal.closed x) →
            IsSomeAnd (at_name (nonterminal_of (name_of (Nonterminal.closed x))) lowered.types) (λ t. IsGrounded g x (type_repr_view t))
        go (inl e) = cc
        go (inr e) = subst (λ (y : Closed). IsSomeAnd (at_name (nonterminal_of (name_of (Nonterminal.closed y))) lowered.types)
            (λ t. IsGrounded g y (type_repr_view t))) (let f : s ≡ x = cc in f)
            (subst (λ (t : GroundType). IsGrounded g s t) (sym lowered_u8) typed)

    once : (x : Closed) (t u : GroundType) → InExpansion g (Nonterminal.closed x) → IsGrounded g x t → IsGrounded g x u → t ≡ u
    once x t u i h k = go (no_other (Nonterminal.closed x) i)
      where
        go : (Nonterminal.start (codes "S") ≡ Nonterminal.closed x) ⊎ (Nonterminal.closed s ≡ Nonterminal.closed x) → t ≡ u
        go (inl e) = cc
        go (inr e) =
            let same : x ≡ s = cc in
            let one : Some u8 ≡ Some t = one_type t (subst (λ (y : Closed). IsGrounded g y t) same h) in
            let two : Some u8 ≡ Some u = one_type u (subst (λ (y : Closed). IsGrounded g y u) same k) in
            let both : Some t ≡ Some u = sym one ∙ two in
            cc

    no_other_type : (n : Text) (t : TypeRepr) → at_name (nonterminal_of n) lowered.types ≡ Some t
        → (x : Nonterminal) × InExpansion g x × (name_of x ≡ n)
    no_other_type n t e = go (found_among (name_order.ghosts).cmp equal_names lowered.types (nonterminal_of n) t e)
      where
        go : Among lowered.types (nonterminal_of n, t) → (x : Nonterminal) × InExpansion g x × (name_of x ≡ n)
        go (inl f) = (Nonterminal.closed s, in_rule, ap (λ (x : NonterminalString × TypeRepr). x.0.0) f)
        go (inr (inl f)) = (Nonterminal.start (codes "S"), in_start, ap (λ (x : NonterminalString × TypeRepr). x.0.0) f)
        go (inr (inr i)) = absurd i

    starts_too : (n : Text) (r : EnabledRule) → InExpansion g (Nonterminal.start n) → IsRule g n r
        → at_name (nonterminal_of (name_of (Nonterminal.start n))) lowered.types
        ≡ at_name (nonterminal_of (name_of (Nonterminal.closed (Closed.call n Closeds.none (loosest r))))) lowered.types
    starts_too n r i e = go (no_other (Nonterminal.start n) i)
      where
        go : (Nonterminal.start (codes "S") ≡ Nonterminal.start n) ⊎ (Nonterminal.closed s ≡ Nonterminal.start n)
            → at_name (nonterminal_of (name_of (Nonterminal.start n))) lowered.types
            ≡ at_name (nonterminal_of (name_of (Nonterminal.closed (Closed.call n Closeds.none (loosest r))))) lowered.types
        go (inr f) = cc
        go (inl f) =
            let same : codes "S" ≡ n = cc in
            subst (λ (m : Text). IsRule g m r → at_name (nonterminal_of (name_of (Nonterminal.start m))) lowered.types
            ≡ at_name (nonterminal_of (name_of (Nonterminal.closed (Closed.call m Closeds.none (loosest r))))) lowered.types) same
            (λ d. subst (λ (l : Option ℕ). at_name (nonterminal_of (name_of (Nonterminal.start (codes "S")))) lowered.types
            ≡ at_name (nonterminal_of (name_of (Nonterminal.closed (Closed.call (codes "S") Closeds.none l)))) lowered.types)
            (ap first_loosest d) refl) e

is_text : type_repr_view text_reference ≡ text_type
is_text =
    view-ref (Some (codes "'input")) false (named_type (codes "str"))
    ∙ ap (λ t. GroundType.ref (Some (codes "'input")) false t) (view-nominal (codes "str") [])

-- the terminal that is seen so
only_a : (t : TerminalString) → a ≡ terminal_view t → terminal_a ≡ t
only_a (terminal.Literal (literal.Quoted k)) e =
    let same : codes "a" ≡ k = cc in ap (λ x. terminal.Literal (literal.Quoted x)) same
only_a (terminal.Literal (literal.Regex k)) e = absurd (let wrong : ⊥ = cc in wrong)
only_a (terminal.Bare n) e = absurd (let wrong : ⊥ = cc in wrong)
only_a terminal.Error e = absurd (let wrong : ⊥ = cc in wrong)

-- the type of the terminal
pub terminal_types : AreTerminalTypes lowered.terminals lowered.terminal_types
terminal_types = record { typed = typed_each; only = only_typed }
  where
    typed_each : (t : TerminalString) → Among lowered.terminals (terminal_view t)
        → IsSomeAnd (at_terminal t lowered.terminal_types) (λ u. type_repr_view u ≡ text_type)
    typed_each t (inl e) =
        subst (λ x. IsSomeAnd (at_terminal x lowered.terminal_types) (λ u. type_repr_view u ≡ text_type)) (only_a t e) is_text
    typed_each t (inr i) = absurd i

    only_typed : (t : TerminalString) (u : TypeRepr) → at_terminal t lowered.terminal_types ≡ Some u
        → Among lowered.terminals (terminal_view t)
    only_typed t u e = go (found_among (terminal_order.ghosts).cmp equal_terminals lowered.terminal_types t u e)
      where
        go : Among lowered.terminal_types (t, u) → Among lowered.terminals (terminal_view t)
        go (inl same) = inl (ap (λ (x : TerminalString × TypeRepr). terminal_view x.0) same)
        go (inr i) = absurd i

-- what its actions do

abbrev written_code : Action
written_code = Action.user (codes "()")

-- the first byte of a name
abbrev pub first_of_name : Text → ℕ
first_of_name (b ∷ t) = b
first_of_name [] = 0

-- the two names differ
pub apart_names : codes "__S" ≡ codes "S" → ⊥
apart_names e = let byte : ◌≡◌ {A = ℕ} 95 83 = ap first_of_name e in omega (arith, byte)

-- the start's action is numbered first
abbrev pub in_order : List Text
in_order = codes "__S" ∷ codes "S" ∷ []

-- the production of the start
abbrev pub start_production : NamedProduction
start_production = record { nonterminal = codes "__S"; symbols = GrammarSymbol.nonterminal (codes "S") ∷ []; action = 0 }

-- the production of the rule
abbrev pub rule_production : NamedProduction
rule_production = record { nonterminal = codes "S"; symbols = GrammarSymbol.terminal a ∷ []; action = 1 }

numbered : AreNumberedAlong in_order lowered.productions
numbered = (first, ((λ p q i j e k. absurd k), tt))
  where
    of_start : (p q : NamedProduction) → start_production ≡ p → Among lowered.productions q
        → Among (codes "S" ∷ []) q.nonterminal → p.action < q.action
    of_start p q e (inl f) (inl k) = absurd (apart_names (ap (λ (x : NamedProduction). x.nonterminal) f ∙ sym k))
    of_start p q e (inl f) (inr k) = absurd k
    of_start p q e (inr (inl f)) k =
        let zero_is : 0 ≡ p.action = ap (λ (x : NamedProduction). x.action) e in
        let one_is : 1 ≡ q.action = ap (λ (x : NamedProduction). x.action) f in
        omega (arith, zero_is, one_is)
    of_start p q e (inr (inr m)) k = absurd m

    first : (p q : NamedProduction) → Among lowered.productions p → Among lowered.productions q → p.nonterminal ≡ codes "__S"
        → Among (codes "S" ∷ []) q.nonterminal → p.action < q.action
    first p q (inl e) j own k = of_start p q e j k
    first p q (inr (inl e)) j own k =
        absurd (apart_names (sym (ap (λ (x : NamedProduction). x.nonterminal) e ∙ own)))
    first p q (inr (inr m)) j own k = absurd m

-- the start's action first, then the rule's
pub action_order : IsActionOrder g name_of lowered.productions
unfolding digits
action_order = record {
  others = [];
  in_order = keys-by-use g [] refl;
  numbered = numbered;
}

rule_acts : ChoiceDoes g (Nonterminal.closed s) (Origin.alternative (codes "S") [] 0) written_code
rule_acts = record {
  rule = _;
  choice = _;
  rule_there = inl refl;
  name_is = refl;
  choice_there = inl refl;
  at = refl;
  action_is = refl;
}

-- what the productions do
pub actions : HasWrittenActions g name_of lowered
unfolding digits
actions = record { defined = defined; no_other = refl }
  where
    Acts : Nonterminal → Origin → NamedProduction → Type 0
    Acts x o p = (b : Action) × ChoiceDoes g x o b × HasDefinition lowered p b

    of_start : (x : Nonterminal) (o : Origin) → InExpansion g x → codes "__S" ≡ name_of x →
        Acts x o (record { nonterminal = codes "__S"; symbols = GrammarSymbol.nonterminal (codes "S") ∷ []; action = 0 })
    of_start x o i e = go (no_other x i)
      where
        go : (Nonterminal.start (codes "S") ≡ x) ⊎ (Nonterminal.closed s ≡ x) →
            Acts x o (record { nonterminal = codes "__S"; symbols = GrammarSymbol.nonterminal (codes "S") ∷ []; action = 0 })
        go (inl f) = subst (λ (y : Nonterminal). Acts y o
            (record { nonterminal = codes "__S"; symbols = GrammarSymbol.nonterminal (codes "S") ∷ []; action = 0 })) f
            (Action.default, refl, refl)
        go (inr f) = absurd (apart_names (e ∙ ap name_of (sym f)))

    of_rule : (x : Nonterminal) (o : Origin) → InExpansion g x → codes "S" ≡ name_of x →
        Some (Origin.alternative (codes "S") [] 0) ≡ Some o →
        Acts x o (record { nonterminal = codes "S"; symbols = GrammarSymbol.terminal a ∷ []; action = 1 })
    of_rule x o i e d = go (no_other x i)
      where
        go : (Nonterminal.start (codes "S") ≡ x) ⊎ (Nonterminal.closed s ≡ x) →
            Acts x o (record { nonterminal = codes "S"; symbols = GrammarSymbol.terminal a ∷ []; action = 1 })
        go (inl f) = absurd (apart_names (ap name_of f ∙ sym e))
        go (inr f) =
            let same : Origin.alternative (codes "S") [] 0 ≡ o = cc in
            subst (λ (y : Nonterminal). Acts y o
            (record { nonterminal = codes "S"; symbols = GrammarSymbol.terminal a ∷ []; action = 1 })) f
            (subst (λ (q : Origin). Acts (Nonterminal.closed s) q
            (record { nonterminal = codes "S"; symbols = GrammarSymbol.terminal a ∷ []; action = 1 })) same
            (written_code, rule_acts, refl))

    defined : (p : NamedProduction) (label : WrittenLabel) (side : RightSide) → Among lowered.productions p →
        StandsForLabel g name_of lowered.origins p label side → Acts label.head label.choice p
    defined p label side (inl e) t =
        subst (λ (q : NamedProduction). q.nonterminal ≡ name_of label.head → Acts label.head label.choice q) e
        (λ n. of_start label.head label.choice t.in_expansion n) t.nonterminal_is
    defined p label side (inr (inl e)) t =
        subst (λ (q : NamedProduction). q.nonterminal ≡ name_of label.head →
        slice_get lowered.origins q.action ≡ Some label.choice → Acts label.head label.choice q) e
        (λ n o. of_rule label.head label.choice t.in_expansion n o) t.nonterminal_is t.origin_is
    defined p label side (inr (inr m)) t = absurd m

-- where its productions stand

alternative_stands : IsWrittenSpan [] one (codes "S") 0 here
alternative_stands = record {
  rule = _;
  alternative = _;
  rule_there = inl refl;
  rule_enabled = refl;
  name_is = refl;
  at = inl refl;
  enabled = refl;
  span_is = refl;
}

rule_stands : IsRuleSpan [] one (codes "S") here
rule_stands = record { rule = _; rule_there = inl refl; enabled = refl; name_is = refl; span_is = refl }

here_alone : (n : Text) (own : TextSpan) → Among lowered.places (n, own) → here ≡ own
here_alone n own (inl e) = ap (λ (x : Text × TextSpan). x.1) e
here_alone n own (inr (inl e)) = ap (λ (x : Text × TextSpan). x.1) e
here_alone n own (inr (inr m)) = absurd m

-- where they stand
pub spans : HasWrittenSpans finds [] one g name_of lowered
spans = record { each = refl; stands = stands; each_place = refl; places = places }
  where
    told : (p : NamedProduction) → Among lowered.productions p → (o : Origin) → slice_get lowered.origins p.action ≡ Some o →
        StandsByChoice [] one here o here
    told p (inl e) o f =
        let start : Some Origin.start ≡ Some o = ap (λ (q : NamedProduction). slice_get lowered.origins q.action) e ∙ f in
        subst (λ (x : Origin). StandsByChoice [] one here x here) (let same : Origin.start ≡ o = cc in same) refl
    told p (inr (inl e)) o f =
        let at : Some (Origin.alternative (codes "S") [] 0) ≡ Some o =
        ap (λ (q : NamedProduction). slice_get lowered.origins q.action) e ∙ f in
        subst (λ (x : Origin). StandsByChoice [] one here x here) (let same : Origin.alternative (codes "S") [] 0 ≡ o = cc in same)
        alternative_stands
    told p (inr (inr m)) o f = absurd m

    at_here : (p : NamedProduction) (k : TextSpan) → Among lowered.spans (p, k) → Among lowered.productions p × (here ≡ k)
    at_here p k (inl e) =
        (inl (ap (λ (x : NamedProduction × TextSpan). x.0) e), ap (λ (x : NamedProduction × TextSpan). x.1) e)
    at_here p k (inr (inl e)) =
        (inr (inl (ap (λ (x : NamedProduction × TextSpan). x.0) e)), ap (λ (x : NamedProduction × TextSpan). x.1) e)
    at_here p k (inr (inr m)) = absurd m

    stands : (p : NamedProduction) (label : WrittenLabel) (side : RightSide) (k own : TextSpan) → Among lowered.spans (p, k) →
        StandsForLabel g name_of lowered.origins p label side → Among lowered.places (p.nonterminal, own) →
        StandsByChoice [] one own label.choice k
    stands p label side k own i t j =
        let u = at_here p k i in
        subst (λ (x : TextSpan). StandsByChoice [] one x label.choice k) (here_alone p.nonterminal own j)
        (subst (λ (x : TextSpan). StandsByChoice [] one here label.choice x) u.1 (told p u.0 label.choice t.origin_is))

    places : (x : Nonterminal) (own : TextSpan) → InExpansion g x → Among lowered.places (name_of x, own)
        → HasOwnSpan finds [] one x own
    places x own i j = subst (HasOwnSpan finds [] one x) (here_alone (name_of x) own j) (go (no_other x i))
      where
        go : (Nonterminal.start (codes "S") ≡ x) ⊎ (Nonterminal.closed s ≡ x) → HasOwnSpan finds [] one x here
        go (inl e) = subst (λ (y : Nonterminal). HasOwnSpan finds [] one y here) e rule_stands
        go (inr e) = subst (λ (y : Nonterminal). HasOwnSpan finds [] one y here) e rule_stands

-- its attributes: none

rule_has : IsRuleAttributes [] one (codes "S") []
rule_has = record { rule = _; rule_there = inl refl; enabled = refl; name_is = refl; attributes_are = refl }

none_there : (n : Text) (as_ : List Attr) → Among lowered.attributes (n, as_) → [] ≡ as_
none_there n as_ (inl e) = ap (λ (x : Text × List Attr). x.1) e
none_there n as_ (inr (inl e)) = ap (λ (x : Text × List Attr). x.1) e
none_there n as_ (inr (inr m)) = absurd m

-- which attributes its nonterminals have
pub attributes : HasWrittenAttributes [] one g name_of lowered
attributes = record { each = refl; own = own }
  where
    own : (x : Nonterminal) (p : TextSpan) (as_ : List Attr) → InExpansion g x → Among lowered.places (name_of x, p)
        → Among lowered.attributes (name_of x, as_) → HasOwnAttributes [] one x p as_
    own x p as_ i j k =
        subst (λ (l : List Attr). HasOwnAttributes [] one x p l) (none_there (name_of x) as_ k) (go (no_other x i))
      where
        go : (Nonterminal.start (codes "S") ≡ x) ⊎ (Nonterminal.closed s ≡ x) → HasOwnAttributes [] one x p []
        go (inl e) = subst (λ (y : Nonterminal). HasOwnAttributes [] one y p []) e refl
        go (inr e) = subst (λ (y : Nonterminal). HasOwnAttributes [] one y p []) e rule_has
