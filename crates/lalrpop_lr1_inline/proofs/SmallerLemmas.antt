-- Each action that inlining adds is made of actions with smaller numbers: so the actions have labels.
use Rattle.std.proofs.Common.{◌≡◌, ◌+◌, ◌<◌, ◌≤◌, ◌∙◌, ℕ, List, [], ◌∷◌, ◌++◌, ap}
use Rattle.std.proofs.Common.{append_assoc, arith, refl, sym, subst, true, false}
use Rattle.std.proofs.Common.{inl, inr, length, length-append, map, ◌⊎◌}
use Rattle.std.specs.Prelude.{All, Bool, Some, if◌then◌else◌, slice_get}
use Rattle.std.specs.List.{list_any}
use Rattle.std.proofs.lemmas.List.Elements.{All-head, All-tail}
use Rattle.std.proofs.lemmas.Option.{slice_get_within}
use Rattle.lalrpop_grammar_symbols.specs.Symbols.{Text}
use Rattle.lalrpop_grammar_symbols.specs.declared.names.NonterminalString.{NonterminalString}
use Rattle.lalrpop_grammar_language.specs.Among.{Among}
use Rattle.lalrpop_grammar_language.proofs.PlaceLemmas.{among_map}
use Rattle.lalrpop_grammar_repr.specs.declared.action.ActionFnDefn.{ActionFnDefn}
use Rattle.lalrpop_grammar_repr.specs.declared.action.ActionFnDefnKind.TheVariants as kinds
use Rattle.lalrpop_grammar_repr.specs.declared.action.InlineActionFnDefn.{InlineActionFnDefn}
use Rattle.lalrpop_grammar_repr.specs.declared.action.InlinedSymbol.{InlinedSymbol}
use Rattle.lalrpop_grammar_repr.specs.declared.action.InlinedSymbol.TheVariants as inlined
use Rattle.lalrpop_grammar_repr.specs.declared.production.NonterminalData.{NonterminalData}
use Rattle.lalrpop_grammar_repr.specs.declared.production.Production.{Production}
use Rattle.lalrpop_grammar_repr.specs.declared.production.Symbol.{Symbol}
use Rattle.lalrpop_lr1_inline.specs.InlinedNames.{NonterminalEntries}
use Rattle.lalrpop_lr1_inline.specs.InliningSteps.{AreInlineDefinitions, AreInlineSteps, all_records_after, is_place, productions_named}
use Rattle.lalrpop_lr1_inline.specs.InliningSteps.{record_entries, records_after, records_in_place, records_of}
use Rattle.lalrpop_lr1_inline.proofs.AfterStepLemmas.{AreBelow}
use Rattle.lalrpop_grammar_language.proofs.AmongLemmas.{among_flat_map}
use Rattle.lalrpop_lr1_inline.proofs.StepsLemmas.{known_on}
use Rattle.lalrpop_lr1_inline.proofs.GivenLabelLemmas.{named_stands}
use Rattle.lalrpop_lr1_inline.proofs.MadeLabelLemmas.{got_at}

-- what the record names has smaller numbers
abbrev pub EntryBelow : ℕ → InlinedSymbol → Type 0
EntryBelow k (inlined.Original s) = Unit {0}
EntryBelow k (inlined.Inlined action side) = action.0 < k

-- each action that a record names has a number below this one
abbrev pub RecordBelow : ℕ → List InlinedSymbol → Type 0
RecordBelow k [] = Unit {0}
RecordBelow k (e ∷ r) = EntryBelow k e × RecordBelow k r

entry_further : (k j : ℕ) → k ≤ j → (e : InlinedSymbol) → EntryBelow k e → EntryBelow j e
entry_further k j l (inlined.Original s) h = tt
entry_further k j l (inlined.Inlined action side) h = omega (arith, l, h)

record_further : (k j : ℕ) → k ≤ j → (r : List InlinedSymbol) → RecordBelow k r → RecordBelow j r
record_further k j l [] h = tt
record_further k j l (e ∷ r) h = (entry_further k j l e h.0, record_further k j l r h.1)

-- all of the productions have such actions
abbrev pub EachBelow : ℕ → List Production → Type 0
EachBelow k ps = (p : Production) → Among ps p → p.action.0 < k

each_of_all : (k : ℕ) (ps : List Production) → All (λ (p : Production). p.action.0 < k) ps → EachBelow k ps
each_of_all k [] h p i = absurd i
each_of_all k (q ∷ ps) h p (inl e) =
    subst (λ (x : Production). x.action.0 < k) e (All-head (λ (x : Production). x.action.0 < k) q ps h)
each_of_all k (q ∷ ps) h p (inr i) = each_of_all k ps (All-tail (λ (x : Production). x.action.0 < k) q ps h) p i

-- all of the entries have
abbrev pub EntriesBelow : ℕ → NonterminalEntries → Type 0
EntriesBelow k es = (e : NonterminalString × NonterminalData) → Among es e → EachBelow k e.1.productions

-- where all entries have actions below a number, so has each entry that stands among them
pub entries_of_all : (k : ℕ) (es : NonterminalEntries) → All (AreBelow k) es → EntriesBelow k es
entries_of_all k [] h e i = absurd i
entries_of_all k (d ∷ es) h e (inl same) =
    subst (λ (x : NonterminalString × NonterminalData). EachBelow k x.1.productions) same
    (each_of_all k d.1.productions (All-head (AreBelow k) d es h))
entries_of_all k (d ∷ es) h e (inr i) = entries_of_all k es (All-tail (AreBelow k) d es h) e i

module _ (k : ℕ) (n : Text) (ps : List Production) (below : EachBelow k ps) where
  entries_below_of : (s : Symbol) (e : InlinedSymbol) → Among (record_entries n ps s) e → EntryBelow k e
  entries_below_of s e = go (is_place n s)
    where
      go : (b : Bool) →
          Among (if b then map (λ (p : Production). inlined.Inlined p.action p.symbols) ps else inlined.Original s ∷ []) e →
          EntryBelow k e
      go true i =
          let w = among_map (λ (p : Production). inlined.Inlined p.action p.symbols) ps e i in
          subst (EntryBelow k) w.2 (below w.0 w.1)
      go false (inl same) = subst (EntryBelow k) same tt
      go false (inr i) = absurd i

  records_below_of : (side : List Symbol) (r : List InlinedSymbol) → Among (records_of n ps side) r → RecordBelow k r
  records_below_of [] r (inl e) = subst (RecordBelow k) e tt
  records_below_of [] r (inr i) = absurd i
  records_below_of (s ∷ side) r i =
      let a = among_flat_map (λ e. map (λ q. e ∷ q) (records_of n ps side)) (record_entries n ps s) r i in
      let b = among_map (λ q. a.0 ∷ q) (records_of n ps side) r a.2 in
      subst (RecordBelow k) b.2 (entries_below_of s a.0 a.1, records_below_of side b.0 b.1)

  place_below_of : (q : Production) (r : List InlinedSymbol) → Among (records_in_place n ps q) r → RecordBelow k r
  place_below_of q r = go (list_any (is_place n) q.symbols)
    where
      go : (b : Bool) → Among (if b then records_of n ps q.symbols else []) r → RecordBelow k r
      go true i = records_below_of q.symbols r i
      go false i = absurd i

  -- what a step makes is made of actions that are there before it
  made_below : (es : NonterminalEntries) → EntriesBelow k es → (m : Production × List InlinedSymbol) →
      Among (all_records_after n ps es) m → (m.0.action.0 < k) × RecordBelow k m.1
  made_below es all m i =
      let a = among_flat_map (λ (e : NonterminalString × NonterminalData). records_after n ps e.1.productions) es m i in
      let b = among_flat_map (λ (p : Production). map (λ (r : List InlinedSymbol). (p, r)) (records_in_place n ps p)) a.0.1.productions
      m a.2 in
      let c = among_map (λ (r : List InlinedSymbol). (b.0, r)) (records_in_place n ps b.0) m b.2 in
      subst (λ (x : Production × List InlinedSymbol). (x.0.action.0 < k) × RecordBelow k x.1) c.2
      (all a.0 a.1 b.0 b.1, place_below_of b.0 c.0 c.1)

-- the action is made of actions with smaller numbers
abbrev pub MadeBelow : ℕ → InlineActionFnDefn → Type 0
MadeBelow k i = (i.action.0 < k) × RecordBelow k i.symbols

further : (k j : ℕ) → k ≤ j → (i : InlineActionFnDefn) → MadeBelow k i → MadeBelow j i
further k j l i h = (omega (arith, l, h.0), record_further k j l i.symbols h.1)

pub inline_told : (a b : InlineActionFnDefn) → kinds.Inline a ≡ kinds.Inline b → a ≡ b
inline_told a b e = cc

pub some_told : (a b : ActionFnDefn) → Some a ≡ Some b → a ≡ b
some_told a b e = cc

pub first_or_later : (a b : ℕ) → a ≤ b → (b ≡ a) ⊎ (a + 1 ≤ b)
first_or_later a b l = grind arith

definitions_below : (actions whole : List ActionFnDefn) (least : ℕ) (ms : List (Production × List InlinedSymbol)) →
    ((m : Production × List InlinedSymbol) → Among ms m → (m.0.action.0 < least) × RecordBelow least m.1) →
    (ds front back : List ActionFnDefn) → AreInlineDefinitions actions ms ds → whole ≡ front ++ (ds ++ back) →
    least ≤ length front → (k : ℕ) (d : ActionFnDefn) (i : InlineActionFnDefn) → length front ≤ k →
    k < length front + length ds → slice_get whole k ≡ Some d → d.kind ≡ kinds.Inline i → MadeBelow k i
definitions_below actions whole least [] below [] front back are e l k d i a b g f = absurd (omega (arith, a, b))
definitions_below actions whole least [] below (x ∷ ds) front back are e l k d i a b g f = absurd are
definitions_below actions whole least (m ∷ ms) below [] front back are e l k d i a b g f = absurd are
definitions_below actions whole least (m ∷ ms) below (x ∷ ds) front back are e l k d i a b g f =
    go (first_or_later (length front) k a)
    (definitions_below actions whole least ms (λ y j. below y (inr j)) ds (front ++ x ∷ []) back are.1
    (e ∙ sym (append_assoc front (x ∷ []) (ds ++ back))) (omega (arith, many, l)) k d i)
  where
    many : length (front ++ x ∷ []) ≡ length front + 1
    many = length-append front (x ∷ [])

    go : (k ≡ length front) ⊎ (length front + 1 ≤ k) →
        (length (front ++ x ∷ []) ≤ k → k < length (front ++ x ∷ []) + length ds → slice_get whole k ≡ Some d →
        d.kind ≡ kinds.Inline i → MadeBelow k i) → MadeBelow k i
    go (inl same) later =
        let here : slice_get whole k ≡ Some x =
        ap (slice_get whole) same ∙ ap (λ (w : List ActionFnDefn). slice_get w (length front)) e ∙ got_at front x (ds ++ back) in
        let is : x ≡ d = some_told x d (sym here ∙ g) in
        let made : record { action = m.0.action; symbols = m.1 } ≡ i =
        inline_told (record { action = m.0.action; symbols = m.1 }) i
        (sym are.0.kind_is ∙ ap (λ (y : ActionFnDefn). y.kind) is ∙ f) in
        subst (MadeBelow k) made
        (further least k (omega (arith, l, a)) (record { action = m.0.action; symbols = m.1 }) (below m (inl refl)))
    go (inr more) later = later (omega (arith, many, more)) (omega (arith, many, b)) g f

within_or_later : (a b : ℕ) → (a < b) ⊎ (b ≤ a)
within_or_later a b = grind arith

-- so is each action that the steps add
pub steps_below : (ns : List Text) (es after : NonterminalEntries) (actions whole : List ActionFnDefn) →
    AreInlineSteps ns es actions after whole → ((mid : List ActionFnDefn) (rest : List Text) (ms last : NonterminalEntries) →
    AreInlineSteps rest ms mid last whole → (back : List ActionFnDefn) × (whole ≡ mid ++ back)) →
    All (AreBelow (length actions)) es →
    (k : ℕ) (d : ActionFnDefn) (i : InlineActionFnDefn) → length actions ≤ k → slice_get whole k ≡ Some d →
    d.kind ≡ kinds.Inline i →
    MadeBelow k i
steps_below [] es after actions whole h extend below k d i l g f =
    let within = slice_get_within whole k d g in
    let same = ap length h.1 in
    absurd (omega (arith, within, same, l))
steps_below (n ∷ ns) es after actions whole h extend below k d i l g f =
    go (within_or_later k (length h.1))
    (λ next far. steps_below ns h.0 after h.1 whole h.3 extend next k d i far g f)
  where
    entries : EntriesBelow (length actions) es
    entries = entries_of_all (length actions) es below

    sources : EachBelow (length actions) (productions_named es n)
    sources p j =
        let w = named_stands es n p j in
        entries w.0 w.1 p w.2

    many : length h.1 ≡ length actions + length h.2.made
    many = ap length h.2.actions_are ∙ length-append actions h.2.made

    go : (k < length h.1) ⊎ (length h.1 ≤ k) →
        (All (AreBelow (length h.1)) h.0 → length h.1 ≤ k → MadeBelow k i) → MadeBelow k i
    go (inl near) later =
        let back = extend h.1 ns h.0 after h.3 in
        let join : whole ≡ actions ++ (h.2.made ++ back.0) =
        back.1 ∙ ap (λ (a : List ActionFnDefn). a ++ back.0) h.2.actions_are ∙ append_assoc actions h.2.made back.0 in
        definitions_below actions whole (length actions) (all_records_after n (productions_named es n) es)
        (made_below (length actions) n (productions_named es n) sources es entries) h.2.made actions back.0 h.2.are_definitions join
        (omega arith) k d i l (omega (arith, many, near)) g f
    go (inr far) later = later (known_on n es h.0 actions h.1 h.2 below) far
