-- What holds of each symbol on the right sides of a grammar holds of each after inlining; for what tables ask of an expansion.
use Rattle.std.specs.Prelude.{Bool, true, false, Option, Some, None, cond, if◌then◌else◌, flat_map, map}
use Rattle.std.proofs.Common.{◌≡◌, ℕ, ◌+◌, List, [], ◌∷◌, ◌++◌, refl, sym, subst, length}
use Rattle.std.specs.List.{list_any}
use Rattle.std.specs.Map.{lookup}
use Rattle.lalrpop_grammar_symbols.specs.Symbols.{Text}
use Rattle.lalrpop_grammar_symbols.specs.declared.names.NonterminalString.{NonterminalString}
use Rattle.lalrpop_grammar_repr.specs.Productions.{productions_in}
use Rattle.lalrpop_grammar_repr.specs.declared.action.ActionFnDefn.{ActionFnDefn}
use Rattle.lalrpop_grammar_repr.specs.declared.action.InlinedSymbol.{InlinedSymbol}
use Rattle.lalrpop_grammar_repr.specs.declared.action.InlinedSymbol.TheVariants as inlined
use Rattle.lalrpop_grammar_repr.specs.declared.production.NonterminalData.{NonterminalData}
use Rattle.lalrpop_grammar_repr.specs.declared.production.Production.{Production}
use Rattle.lalrpop_grammar_repr.specs.declared.production.Symbol.{Symbol}
use Rattle.lalrpop_lr1_theory.proofs.ListLemmas.{AllOf}
use Rattle.lalrpop_lr1_inline.specs.InlinedGrammars.{IsInlinedGrammar}
use Rattle.lalrpop_lr1_inline.specs.InlinedNames.{NonterminalEntries, data_named}
use Rattle.lalrpop_lr1_inline.specs.InliningSteps.{AreInlineSteps, entries_after, is_place}
use Rattle.lalrpop_lr1_inline.specs.InliningSteps.{productions_after, productions_in_place, productions_named, productions_of_records}
use Rattle.lalrpop_lr1_inline.specs.InliningSteps.{record_entries, records_in_place, records_of, side_of_entry, side_of_record}

-- of both lists, and of each list that is joined
both_of : {A : Type 0} (P : A → Type 0) (xs ys : List A) → AllOf P xs → AllOf P ys → AllOf P (xs ++ ys)
both_of P [] ys h k = k
both_of P (x ∷ xs) ys h k = (h.0, both_of P xs ys h.1 k)

joined_of : {A B : Type 0} (P : B → Type 0) (f : A → List B) (xs : List A) → AllOf (λ x. AllOf P (f x)) xs →
    AllOf P (flat_map f xs)
joined_of P f [] h = tt
joined_of P f (x ∷ xs) h = both_of P (f x) (flat_map f xs) h.0 (joined_of P f xs h.1)

mapped_of : {A B : Type 0} (P : B → Type 0) (f : A → B) (xs : List A) → AllOf (λ x. P (f x)) xs → AllOf P (map f xs)
mapped_of P f [] h = tt
mapped_of P f (x ∷ xs) h = (h.0, mapped_of P f xs h.1)

each_of : {A : Type 0} (P Q : A → Type 0) → ((x : A) → P x → Q x) → (xs : List A) → AllOf P xs → AllOf Q xs
each_of P Q f [] h = tt
each_of P Q f (x ∷ xs) h = (f x h.0, each_of P Q f xs h.1)

module _ (P : Symbol → Type 0) where
  abbrev pub IsSideOf : Production → Type 0
  IsSideOf p = AllOf P p.symbols

  -- it holds of each symbol on each right side
  abbrev pub AreSidesOf : NonterminalEntries → Type 0
  AreSidesOf es = AllOf (λ e. AllOf IsSideOf e.1.productions) es

  abbrev IsEntryOf : InlinedSymbol → Type 0
  IsEntryOf e = AllOf P (side_of_entry e)

  abbrev IsRecordOf : List InlinedSymbol → Type 0
  IsRecordOf r = AllOf P (side_of_record r)

  -- the productions that a look-up finds
  found_of : (o : Option NonterminalData) (es : NonterminalEntries) (test : NonterminalString → Bool) →
      lookup test es ≡ o → AreSidesOf es
      → AllOf IsSideOf (productions_in o)
  found_of None es test e h = tt
  found_of (Some d) [] test e h = absurd (let wrong : ⊥ = cc in wrong)
  found_of (Some d) (x ∷ es) test e h = go (test x.0) refl e (λ f. found_of (Some d) es test f h.1)
    where
      go : (b : Bool) → test x.0 ≡ b → cond b (Some x.1) (lookup test es) ≡ Some d
          → (lookup test es ≡ Some d → AllOf IsSideOf (productions_in (Some d))) → AllOf IsSideOf (productions_in (Some d))
      go true f k later = let same : x.1 ≡ d = cc in subst (λ (y : NonterminalData). AllOf IsSideOf y.productions) same h.0
      go false f k later = later k

  module _ (n : Text) (ps : List Production) (own : AllOf IsSideOf ps) where
    entries_of : (s : Symbol) → P s → AllOf IsEntryOf (record_entries n ps s)
    entries_of s h = go (is_place n s)
      where
        go : (b : Bool)
            → AllOf IsEntryOf (if b then map (λ (p : Production). inlined.Inlined p.action p.symbols) ps else inlined.Original s ∷ [])
        go true = mapped_of IsEntryOf (λ (p : Production). inlined.Inlined p.action p.symbols) ps own
        go false = ((h, tt), tt)

    sides_of : (side : List Symbol) → AllOf P side → AllOf IsRecordOf (records_of n ps side)
    sides_of [] h = (tt, tt)
    sides_of (s ∷ side) h =
        let rest = sides_of side h.1 in
        joined_of IsRecordOf (λ e. map (λ r. e ∷ r) (records_of n ps side)) (record_entries n ps s)
        (each_of IsEntryOf (λ e. AllOf IsRecordOf (map (λ r. e ∷ r) (records_of n ps side)))
        (λ e k.
        mapped_of IsRecordOf (λ r. e ∷ r) (records_of n ps side)
        (each_of IsRecordOf (λ r. IsRecordOf (e ∷ r)) (λ r l. both_of P (side_of_entry e) (side_of_record r) k l)
        (records_of n ps side) rest))
        (record_entries n ps s) (entries_of s h.0))

    made_of : (p : Production) (rs : List (List InlinedSymbol)) (k : ℕ) → AllOf IsRecordOf rs
        → AllOf IsSideOf (productions_of_records p rs k)
    made_of p [] k h = tt
    made_of p (r ∷ rs) k h = (h.0, made_of p rs (k + 1) h.1)

    place_of : (p : Production) (k : ℕ) → IsSideOf p → AllOf IsSideOf (productions_in_place n ps p k)
    place_of p k h = go (list_any (is_place n) p.symbols)
      where
        go : (b : Bool) → AllOf IsSideOf (if b then productions_of_records p (records_of n ps p.symbols) k else p ∷ [])
        go true = made_of p (records_of n ps p.symbols) k (sides_of p.symbols h)
        go false = (h, tt)

    after_of : (qs : List Production) (k : ℕ) → AllOf IsSideOf qs → AllOf IsSideOf (productions_after n ps qs k)
    after_of [] k h = tt
    after_of (p ∷ qs) k h =
        both_of IsSideOf (productions_in_place n ps p k) (productions_after n ps qs (k + length (records_in_place n ps p)))
        (place_of p k h.0) (after_of qs (k + length (records_in_place n ps p)) h.1)

    step_of : (es : NonterminalEntries) (k : ℕ) → AreSidesOf es → AreSidesOf (entries_after n ps es k)
    step_of [] k h = tt
    step_of (e ∷ es) k h = (after_of e.1.productions k h.0, step_of es _ h.1)

  steps_of : (order : List Text) (es : NonterminalEntries) (actions : List ActionFnDefn) (after : NonterminalEntries)
      (actions_after : List ActionFnDefn) → AreInlineSteps order es actions after actions_after → AreSidesOf es → AreSidesOf after
  steps_of [] es actions after actions_after s h = subst AreSidesOf (sym s.0) h
  steps_of (n ∷ ns) es actions after actions_after (mid, actions_mid, step, rest) h =
      steps_of ns mid actions_mid after actions_after rest
      (subst AreSidesOf (sym step.entries_are)
      (step_of n (productions_named es n) (found_of (data_named es n) es _ refl h) es (length actions) h))

  -- inlining keeps it
  pub inlined_of : {before after : _} → IsInlinedGrammar before after → AreSidesOf before.nonterminals → AreSidesOf after.nonterminals
  inlined_of {before} {after} i h =
      steps_of i.order before.nonterminals before.action_fn_defns after.nonterminals after.action_fn_defns i.steps h
