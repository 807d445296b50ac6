-- Computed examples of labels that actions tell, and of labels that they don't.
use Prim.Native.String.{String}
use Rattle.std.proofs.Common.{◌≡◌, ◌∙◌, ◌+◌, ◌<◌, ◌≤◌, ℕ, List, [], ◌∷◌, ap, arith, false}
use Rattle.std.proofs.Common.{inl, inr, length, refl, subst, suc, sym, ◌⊎◌}
use Rattle.std.specs.Prelude.{None, Some, codes, slice_get}
use Rattle.lalrpop_grammar.specs.Views.{origin_view}
use Rattle.lalrpop_grammar.specs.WrittenGrammar.{Origin}
use Rattle.lalrpop_grammar.specs.declared.origin.Origin as choices
use Rattle.lalrpop_grammar.specs.declared.origin.Origin.TheVariants as origins
use Rattle.lalrpop_grammar_language.specs.Expansion.{Nonterminal}
use Rattle.lalrpop_grammar_repr.specs.declared.action.ActionFnDefn.{ActionFnDefn}
use Rattle.lalrpop_grammar_repr.specs.declared.action.ActionFnDefnKind.TheVariants as kinds
use Rattle.lalrpop_grammar_repr.specs.declared.action.InlineActionFnDefn.{InlineActionFnDefn}
use Rattle.lalrpop_grammar_repr.specs.declared.action.InlinedSymbol.{InlinedSymbol}
use Rattle.lalrpop_grammar_repr.specs.declared.action.InlinedSymbol.TheVariants as inlined
use Rattle.lalrpop_grammar.specs.declared.types.type_repr.TypeRepr.TheVariants as types
use Rattle.lalrpop_grammar_language.specs.Labels.{Inlinings, Label}
use Rattle.lalrpop_lr1_inline.specs.InlinedNames.{name_of_text}
use Rattle.lalrpop_lr1_inline.proofs.ExamplesOfInliningOrders.{n, t}
use Rattle.lalrpop_lr1_inline.proofs.ExamplesOfInliningSteps.{by, same}
use Rattle.lalrpop_run_theory.proofs.ExamplesOfExpansions.{place, rule}
use Rattle.lalrpop_run_trees.specs.ActionLabels.{ChoiceInlinings, ChoiceLabel, TellEntries, TellsLabel, all_kept, kept_count}
use Rattle.lalrpop_run_trees.specs.ActionLabels.{fill_all_by_entries, label_of_entries}
use Rattle.lalrpop_lr1_inline.proofs.SmallerLemmas.{inline_told, some_told}

-- what has told a label

module _ (actions : List ActionFnDefn) (given : List choices.Origin) where
  record IsGivenLabel (k count : ℕ) (label : ChoiceLabel) : Type 0 where
    nonterminal : Nonterminal
    origin : choices.Origin
    has_origin : slice_get given k ≡ Some origin
    label_is : label ≡ Label.choose nonterminal (origin_view origin) (all_kept count)

  record IsMadeLabel (k count : ℕ) (label : ChoiceLabel) : Type 0 where
    definition : ActionFnDefn
    made : InlineActionFnDefn
    outer : ChoiceLabel
    entries : ChoiceInlinings
    behind : length given ≤ k
    has_definition : slice_get actions k ≡ Some definition
    kind_is : definition.kind ≡ kinds.Inline made
    smaller : made.action.0 < k
    tells_outer : TellsLabel actions given made.action.0 (length made.symbols) outer
    tell_entries : TellEntries actions given k made.symbols count entries
    label_is : label ≡ label_of_entries outer entries

  label_parts : (k count : ℕ) (label : ChoiceLabel) → TellsLabel actions given k count label →
      IsGivenLabel k count label ⊎ IsMadeLabel k count label
  label_parts k count label (TellsLabel.given j c x o e) =
      inl (record { nonterminal = x; origin = o; has_origin = e; label_is = refl })
  label_parts k count label (TellsLabel.made j c d i outer entries behind e f smaller h l) =
      inr (record {
        definition = d;
        made = i;
        outer = outer;
        entries = entries;
        behind = behind;
        has_definition = e;
        kind_is = f;
        smaller = smaller;
        tells_outer = h;
        tell_entries = l;
        label_is = refl;
      })

  abbrev EntriesAre : ℕ → List InlinedSymbol → ℕ → ChoiceInlinings → Type 0
  EntriesAre below [] count entries = (count ≡ 0) × (entries ≡ Inlinings.none)
  EntriesAre below (inlined.Original s ∷ r) count entries =
      (c : ℕ) × (rest : ChoiceInlinings) × (count ≡ suc c) × (entries ≡ Inlinings.kept rest)
      × TellEntries actions given below r c rest
  EntriesAre below (inlined.Inlined action side ∷ r) count entries =
      (label : ChoiceLabel) × (c : ℕ) × (rest : ChoiceInlinings) × (count ≡ length side + c)
      × (entries ≡ Inlinings.inlined label rest)
      × (action.0 < below) × TellEntries actions given below r c rest

  entries_parts : (below : ℕ) (r : List InlinedSymbol) (count : ℕ) (entries : ChoiceInlinings) →
      TellEntries actions given below r count entries → EntriesAre below r count entries
  entries_parts below r count entries (TellEntries.none b) = (refl, refl)
  entries_parts below r count entries (TellEntries.kept b s q c rest h) = (c, rest, refl, refl, h)
  entries_parts below r count entries (TellEntries.inlined b action side label q c rest smaller h l) =
      (label, c, rest, refl, refl, smaller, l)

-- B = "b"; A = B "a"; E = ; S = A E, of which A, B and E are inlined: B in A, then E and A in S

abbrev user : ActionFnDefn
user = record { fallible = false; ret_type = types.Opaque []; kind = kinds.User (record { code = None }) }

abbrev made_of : ℕ → List InlinedSymbol → ActionFnDefn
made_of action symbols = record {
  fallible = false;
  ret_type = types.Opaque [];
  kind = kinds.Inline (record { action = record { 0 = action }; symbols = symbols });
}

abbrev A_record : List InlinedSymbol
A_record = by 0 (t "b" ∷ []) ∷ same (t "a") ∷ []

abbrev E_record : List InlinedSymbol
E_record = same (n "A") ∷ by 2 [] ∷ []

abbrev S_record : List InlinedSymbol
S_record = by 4 (t "b" ∷ t "a" ∷ []) ∷ []

abbrev actions : List ActionFnDefn
actions = user ∷ user ∷ user ∷ user ∷ made_of 1 A_record ∷ made_of 3 E_record ∷ made_of 5 S_record ∷ []

-- the first alternative of a rule
abbrev first_of_rule : String → choices.Origin
first_of_rule s = origins.Alternative (name_of_text (codes s)) [] 0

abbrev given : List choices.Origin
given = first_of_rule "B" ∷ first_of_rule "A" ∷ first_of_rule "E" ∷ first_of_rule "S" ∷ []

abbrev label : String → ChoiceInlinings → ChoiceLabel
label s inlinings = Label.choose (rule s) (place s 0) inlinings

abbrev B_given : ChoiceLabel
B_given = label "B" (Inlinings.kept Inlinings.none)

abbrev A_given : ChoiceLabel
A_given = label "A" (Inlinings.kept (Inlinings.kept Inlinings.none))

abbrev E_given : ChoiceLabel
E_given = label "E" Inlinings.none

abbrev S_given : ChoiceLabel
S_given = label "S" (Inlinings.kept (Inlinings.kept Inlinings.none))

-- each given action tells the label in which nothing is inlined
tells_A : TellsLabel actions given 1 2 A_given
tells_A = TellsLabel.given 1 2 (rule "A") (first_of_rule "A") refl

-- one of two symbols is inlined
abbrev A_by_B : ChoiceLabel
A_by_B = label "A" (Inlinings.inlined B_given (Inlinings.kept Inlinings.none))

tells_A_by_B : TellsLabel actions given 4 2 A_by_B
tells_A_by_B =
    TellsLabel.made 4 2 (made_of 1 A_record) (record { action = record { 0 = 1 }; symbols = A_record }) A_given
    (Inlinings.inlined B_given (Inlinings.kept Inlinings.none)) (omega arith) refl refl (omega arith) tells_A
    (TellEntries.inlined 4 (record { 0 = 0 }) (t "b" ∷ []) B_given (same (t "a") ∷ []) 1 (Inlinings.kept Inlinings.none) (omega arith)
    (TellsLabel.given 0 1 (rule "B") (first_of_rule "B") refl)
    (TellEntries.kept 4 (t "a") [] 0 Inlinings.none (TellEntries.none 4)))

-- one that is empty
abbrev S_by_E : ChoiceLabel
S_by_E = label "S" (Inlinings.kept (Inlinings.inlined E_given Inlinings.none))

tells_S_by_E : TellsLabel actions given 5 1 S_by_E
tells_S_by_E =
    TellsLabel.made 5 1 (made_of 3 E_record) (record { action = record { 0 = 3 }; symbols = E_record }) S_given
    (Inlinings.kept (Inlinings.inlined E_given Inlinings.none)) (omega arith) refl refl (omega arith)
    (TellsLabel.given 3 2 (rule "S") (first_of_rule "S") refl)
    (TellEntries.kept 5 (n "A") (by 2 [] ∷ []) 0 (Inlinings.inlined E_given Inlinings.none)
    (TellEntries.inlined 5 (record { 0 = 2 }) [] E_given [] 0 Inlinings.none (omega arith)
    (TellsLabel.given 2 0 (rule "E") (first_of_rule "E") refl) (TellEntries.none 5)))

-- an inlined one within an inlined one, in a label in which another is inlined already
abbrev S_by_both : ChoiceLabel
S_by_both = label "S" (Inlinings.inlined A_by_B (Inlinings.inlined E_given Inlinings.none))

tells_S_by_both : TellsLabel actions given 6 2 S_by_both
tells_S_by_both =
    TellsLabel.made 6 2 (made_of 5 S_record) (record { action = record { 0 = 5 }; symbols = S_record }) S_by_E
    (Inlinings.inlined A_by_B Inlinings.none) (omega arith) refl refl (omega arith) tells_S_by_E
    (TellEntries.inlined 6 (record { 0 = 4 }) (t "b" ∷ t "a" ∷ []) A_by_B [] 0 Inlinings.none (omega arith) tells_A_by_B
    (TellEntries.none 6))

-- as many symbols stand as the labels keep
both_kept : kept_count S_by_both ≡ 2
both_kept = refl

-- What isn't told.

-- what an action is made of stands in its definition
made_is : (defined : ActionFnDefn) (own i : InlineActionFnDefn) (d : ActionFnDefn) → Some defined ≡ Some d →
    defined.kind ≡ kinds.Inline own → d.kind ≡ kinds.Inline i → own ≡ i
made_is defined own i d e f g =
    inline_told own i (sym f ∙ ap (λ (x : ActionFnDefn). x.kind) (some_told defined d e) ∙ g)

not_both : (x y : Nonterminal) (o p : Origin) (l : ChoiceLabel) (rest other : ChoiceInlinings) →
    Label.choose x o (Inlinings.kept rest) ≡ Label.choose y p (Inlinings.inlined l other) → ⊥
not_both x y o p l rest other e = (let same : Inlinings.kept rest ≡ Inlinings.inlined l other = cc in cc)

-- a label that keeps what the record inlines
keeps_refused : TellsLabel actions given 4 2 A_given → ⊥
keeps_refused h = go (label_parts actions given 4 2 A_given h)
  where
    made : (m : IsMadeLabel actions given 4 2 A_given) → ⊥
    made m = outer (label_parts actions given 1 2 m.outer tells)
      where
        own : record { action = record { 0 = 1 }; symbols = A_record } ≡ m.made
        own = made_is (made_of 1 A_record) (record { action = record { 0 = 1 }; symbols = A_record }) m.made m.definition
            m.has_definition refl m.kind_is

        tells : TellsLabel actions given 1 2 m.outer
        tells = subst (λ (i : InlineActionFnDefn). TellsLabel actions given i.action.0 (length i.symbols) m.outer) (sym own) m.tells_outer

        entries : EntriesAre actions given 4 A_record 2 m.entries
        entries =
            entries_parts actions given 4 A_record 2 m.entries
            (subst (λ (i : InlineActionFnDefn). TellEntries actions given 4 i.symbols 2 m.entries) (sym own) m.tell_entries)

        outer : IsGivenLabel actions given 1 2 m.outer ⊎ IsMadeLabel actions given 1 2 m.outer → ⊥
        outer (inl g) =
            not_both (rule "A") g.nonterminal (place "A" 0) (origin_view g.origin) entries.0 (Inlinings.kept Inlinings.none)
            (fill_all_by_entries (Inlinings.kept Inlinings.none) entries.2).0
            (m.label_is ∙ ap (λ (l : ChoiceLabel). label_of_entries l m.entries) g.label_is
            ∙ ap (label_of_entries (Label.choose g.nonterminal (origin_view g.origin) (all_kept 2))) entries.4)
        outer (inr k) = (let wrong = k.behind in omega (arith, wrong))

    go : IsGivenLabel actions given 4 2 A_given ⊎ IsMadeLabel actions given 4 2 A_given → ⊥
    go (inl g) = (let wrong = g.has_origin in cc)
    go (inr m) = made m

-- nor the label of another choice
other_refused : TellsLabel actions given 1 2 (label "B" (Inlinings.kept (Inlinings.kept Inlinings.none))) → ⊥
other_refused h = go (label_parts actions given 1 2 (label "B" (Inlinings.kept (Inlinings.kept Inlinings.none))) h)
  where
    apart : (o : choices.Origin) → Some (first_of_rule "A") ≡ Some o → place "B" 0 ≡ origin_view o → ⊥
    apart o e f =
        let same : first_of_rule "A" ≡ o = cc in
        let sources : place "B" 0 ≡ place "A" 0 = f ∙ ap origin_view (sym same) in
        let texts : codes "B" ≡ codes "A" = cc in
        let letters : ◌≡◌ {A = ℕ} 66 65 = cc in
        omega (arith, letters)

    go : IsGivenLabel actions given 1 2 (label "B" (Inlinings.kept (Inlinings.kept Inlinings.none)))
        ⊎ IsMadeLabel actions given 1 2 (label "B" (Inlinings.kept (Inlinings.kept Inlinings.none))) → ⊥
    go (inl g) = apart g.origin g.has_origin (choice_is g.label_is)
      where
        choice_is : label "B" (Inlinings.kept (Inlinings.kept Inlinings.none))
            ≡ Label.choose g.nonterminal (origin_view g.origin) (all_kept 2) → place "B" 0 ≡ origin_view g.origin
        choice_is e = cc
    go (inr m) = (let wrong = m.behind in omega (arith, wrong))

-- nor any label of a production with another number of symbols
count_refused : (l : ChoiceLabel) → TellsLabel actions given 4 3 l → ⊥
count_refused l h = go (label_parts actions given 4 3 l h)
  where
    go : IsGivenLabel actions given 4 3 l ⊎ IsMadeLabel actions given 4 3 l → ⊥
    go (inl g) = (let wrong = g.has_origin in cc)
    go (inr m) =
        let own = made_is (made_of 1 A_record) (record { action = record { 0 = 1 }; symbols = A_record }) m.made m.definition
        m.has_definition refl m.kind_is in
        let first = entries_parts actions given 4 A_record 3 m.entries
        (subst (λ (i : InlineActionFnDefn). TellEntries actions given 4 i.symbols 3 m.entries) (sym own) m.tell_entries) in
        let second = entries_parts actions given 4 (same (t "a") ∷ []) first.1 first.2 first.6 in
        let third = entries_parts actions given 4 [] second.0 second.1 second.4 in
        omega (arith, first.3, second.2, third.0)

-- an action that is made of itself tells none
abbrev made_of_itself : List ActionFnDefn
made_of_itself = user ∷ made_of 1 (same (t "a") ∷ []) ∷ []

itself_refused : (count : ℕ) (l : ChoiceLabel) → TellsLabel made_of_itself (first_of_rule "A" ∷ []) 1 count l → ⊥
itself_refused count l h = go (label_parts made_of_itself (first_of_rule "A" ∷ []) 1 count l h)
  where
    go : IsGivenLabel made_of_itself (first_of_rule "A" ∷ []) 1 count l
        ⊎ IsMadeLabel made_of_itself (first_of_rule "A" ∷ []) 1 count l → ⊥
    go (inl g) = (let wrong = g.has_origin in cc)
    go (inr m) =
        let own = made_is (made_of 1 (same (t "a") ∷ [])) (record { action = record { 0 = 1 }; symbols = same (t "a") ∷ [] }) m.made
        m.definition m.has_definition refl m.kind_is in
        let number : ◌≡◌ {A = ℕ} 1 m.made.action.0 = ap (λ (i : InlineActionFnDefn). i.action.0) own in
        omega (arith, number, m.smaller)

-- nor does one whose record names it
abbrev names_itself : List ActionFnDefn
names_itself = user ∷ made_of 0 (by 1 (t "a" ∷ []) ∷ []) ∷ []

name_refused : (count : ℕ) (l : ChoiceLabel) → TellsLabel names_itself (first_of_rule "A" ∷ []) 1 count l → ⊥
name_refused count l h = go (label_parts names_itself (first_of_rule "A" ∷ []) 1 count l h)
  where
    go : IsGivenLabel names_itself (first_of_rule "A" ∷ []) 1 count l
        ⊎ IsMadeLabel names_itself (first_of_rule "A" ∷ []) 1 count l → ⊥
    go (inl g) = (let wrong = g.has_origin in cc)
    go (inr m) =
        let r = by 1 (t "a" ∷ []) ∷ [] in
        let own = made_is (made_of 0 r) (record { action = record { 0 = 0 }; symbols = r }) m.made m.definition m.has_definition refl
        m.kind_is in
        let first = entries_parts names_itself (first_of_rule "A" ∷ []) 1 r count m.entries
        (subst (λ (i : InlineActionFnDefn). TellEntries names_itself (first_of_rule "A" ∷ []) 1 i.symbols count m.entries) (sym own)
        m.tell_entries) in
        omega (arith, first.5)

-- nor one that isn't there
absent_refused : (count : ℕ) (l : ChoiceLabel) → TellsLabel actions given 7 count l → ⊥
absent_refused count l h = go (label_parts actions given 7 count l h)
  where
    go : IsGivenLabel actions given 7 count l ⊎ IsMadeLabel actions given 7 count l → ⊥
    go (inl g) = (let wrong = g.has_origin in cc)
    go (inr m) = (let wrong = m.has_definition in cc)
