-- Where productions stand in a lowered grammar, and that inlining leaves them under their names: for the law on inlined grammars.
use Rattle.std.proofs.Common.{◌≡◌, ◌+◌, List, [], ◌∷◌, refl, ap, sym, ◌∙◌, subst, inl, inr, ◌⊎◌, ℕ}
use Rattle.std.proofs.Common.{true, false, Bool, length}
use Rattle.std.specs.Prelude.{Option, Some, None, if◌then◌else◌}
use Rattle.std.specs.List.{list_any}
use Rattle.std.specs.List.Sorted.{IsStrictlySortedBy}
use Rattle.std.specs.Map.{keys_of}
use Rattle.lalrpop_grammar_symbols.specs.Symbols.{Text}
use Rattle.lalrpop_grammar_symbols.specs.contracts.names.NonterminalStringOrd.TheImpl as names
use Rattle.lalrpop_grammar_symbols.specs.declared.names.NonterminalString.{NonterminalString}
use Rattle.lalrpop_grammar_language.specs.Among.{Among}
use Rattle.lalrpop_grammar_repr.specs.Productions.{productions_in}
use Rattle.lalrpop_grammar_repr.specs.declared.action.ActionFnDefn.{ActionFnDefn}
use Rattle.lalrpop_grammar_repr.specs.declared.action.InlinedSymbol.{InlinedSymbol}
use Rattle.lalrpop_grammar_repr.specs.declared.production.NonterminalData.{NonterminalData}
use Rattle.lalrpop_grammar_repr.specs.declared.production.Production.{Production}
use Rattle.lalrpop_lr1_inline.specs.InlinedNames.{NonterminalEntries, data_named, name_of_text}
use Rattle.lalrpop_lr1_inline.specs.InliningSteps.{AreInlineSteps, entries_after, is_place}
use Rattle.lalrpop_lr1_inline.specs.InliningSteps.{productions_after, productions_in_place, productions_named, productions_of_records}
use Rattle.lalrpop_lr1_inline.specs.InliningSteps.{records_after, records_in_place, records_of}
use Rattle.lalrpop_grammar_language.proofs.OrderLemmas.{among_parts}
use Rattle.lalrpop_lr1_inline.proofs.NamedLemmas.{entry_found, lookup_entry}
use Rattle.lalrpop_lr1_inline.proofs.StepsLemmas.{names_on}
use Rattle.lalrpop_run_prepare.specs.NamedGrammars.{StandUnderNames}

abbrev Entry : Type 0
Entry = NonterminalString × NonterminalData

-- the names of the entries ascend, and none stands twice
abbrev pub AreSorted : NonterminalEntries → Type 0
AreSorted es = IsStrictlySortedBy (names.ghosts).cmp (keys_of es)

-- a production of an entry is found under the entry's name
pub stands_named : (es : NonterminalEntries) → AreSorted es → (e : NonterminalString × NonterminalData) (p : Production) →
    Among es e → Among e.1.productions p → Among (productions_named es e.0.0) p
stands_named es sorted e p i j =
    subst (λ (o : Option NonterminalData). Among (productions_in o) p) (sym (lookup_entry es sorted e i)) j

-- what is found under a name stands in the entry of that name
pub named_entry : (es : NonterminalEntries) (n : Text) (p : Production) → Among (productions_named es n) p →
    (d : NonterminalData) × Among es (name_of_text n, d) × Among d.productions p
named_entry es n p i = go (data_named es n) refl i
  where
    go : (o : Option NonterminalData) → data_named es n ≡ o → Among (productions_in o) p →
        (d : NonterminalData) × Among es (name_of_text n, d) × Among d.productions p
    go None e j = absurd j
    go (Some d) e j = (d, entry_found es (name_of_text n) d e, j)

-- and has that name
pub named_name : (es : NonterminalEntries) → StandUnderNames es → (n : Text) (p : Production) → Among (productions_named es n) p →
    p.nonterminal.0 ≡ n
named_name es own n p i =
    let d = named_entry es n p i in
    ap (λ (m : NonterminalString). m.0) (own (name_of_text n, d.0) p d.1 d.2)

-- inlining

-- the nonterminal of each production is this one
abbrev AreOf : NonterminalString → List Production → Type 0
AreOf m ps = (p : Production) → Among ps p → p.nonterminal ≡ m

of_records : (p : Production) (m : NonterminalString) (rs : List (List InlinedSymbol)) (k : ℕ) → p.nonterminal ≡ m →
    AreOf m (productions_of_records p rs k)
of_records p m [] k e q i = absurd i
of_records p m (r ∷ rs) k e q (inl same) = ap (λ (z : Production). z.nonterminal) (sym same) ∙ e
of_records p m (r ∷ rs) k e q (inr i) = of_records p m rs (k + 1) e q i

of_place : (n : Text) (ps : List Production) (p : Production) (m : NonterminalString) (k : ℕ) → p.nonterminal ≡ m →
    AreOf m (productions_in_place n ps p k)
of_place n ps p m k e = go (list_any (is_place n) p.symbols)
  where
    go : (b : Bool) → AreOf m (if b then productions_of_records p (records_of n ps p.symbols) k else p ∷ [])
    go true q i = of_records p m (records_of n ps p.symbols) k e q i
    go false q (inl same) = ap (λ (z : Production). z.nonterminal) (sym same) ∙ e
    go false q (inr i) = absurd i

of_after : (n : Text) (ps qs : List Production) (m : NonterminalString) (k : ℕ) → AreOf m qs → AreOf m (productions_after n ps qs k)
of_after n ps [] m k own q i = absurd i
of_after n ps (p ∷ qs) m k own q i =
    either (of_place n ps p m k (own p (inl refl)) q)
    (of_after n ps qs m (k + length (records_in_place n ps p)) (λ z j. own z (inr j)) q)
    (among_parts (productions_in_place n ps p k) (productions_after n ps qs (k + length (records_in_place n ps p))) q i)
  where
    either : {A B C : Type 0} → (A → C) → (B → C) → A ⊎ B → C
    either f h (inl a) = f a
    either f h (inr b) = h b

entries_own : (n : Text) (ps : List Production) (es : NonterminalEntries) (k : ℕ) → StandUnderNames es →
    StandUnderNames (entries_after n ps es k)
entries_own n ps [] k own e p i j = absurd i
entries_own n ps (d ∷ es) k own e p (inl same) j =
    of_after n ps d.1.productions d.0 k (λ q a. own d q (inl refl) a) p
    (subst (λ (z : Entry). Among z.1.productions p) (sym same) j)
    ∙ ap (λ (z : Entry). z.0) same
entries_own n ps (d ∷ es) k own e p (inr i) j =
    entries_own n ps es (k + length (records_after n ps d.1.productions)) (λ z q a b. own z q (inr a) b) e p i j

-- steps of inlining leave each production under its name, and the names as they are
pub steps_own : (ns : List Text) (es after : NonterminalEntries) (actions actions_after : List ActionFnDefn) →
    AreInlineSteps ns es actions after actions_after → StandUnderNames es → StandUnderNames after
steps_own [] es after actions actions_after h own = subst StandUnderNames (sym h.0) own
steps_own (n ∷ ns) es after actions actions_after h own =
    steps_own ns h.0 after h.1 actions_after h.3
    (subst StandUnderNames (sym h.2.entries_are) (entries_own n (productions_named es n) es (length actions) own))

-- after steps of inlining the names of the entries still ascend
pub steps_sorted : (ns : List Text) (es after : NonterminalEntries) (actions actions_after : List ActionFnDefn) →
    AreInlineSteps ns es actions after actions_after → AreSorted es → AreSorted after
steps_sorted [] es after actions actions_after h sorted = subst AreSorted (sym h.0) sorted
steps_sorted (n ∷ ns) es after actions actions_after h sorted =
    steps_sorted ns h.0 after h.1 actions_after h.3
    (subst (IsStrictlySortedBy (names.ghosts).cmp) (sym (names_on n es h.0 actions h.1 h.2)) sorted)
