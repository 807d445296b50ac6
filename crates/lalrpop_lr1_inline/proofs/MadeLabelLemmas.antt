-- The labels of the actions that a step adds, and what the step makes of each production: for the labels after a step.
use Rattle.std.proofs.Common.{◌≡◌, ◌+◌, ◌≤◌, ◌∙◌, ℕ, List, [], ◌∷◌, ◌++◌, ap}
use Rattle.std.proofs.Common.{append_assoc, arith, refl, sym, subst, true, false, inl, inr}
use Rattle.std.proofs.Common.{length, length-append, map, ◌⊎◌}
use Rattle.std.specs.Prelude.{Bool, Some, if◌then◌else◌, slice_get}
use Rattle.std.specs.Ordering.{is_eq}
use Rattle.std.proofs.lemmas.List.{length-map}
use Rattle.std.specs.List.{list_any}
use Rattle.lalrpop_grammar_symbols.specs.Symbols.{Text}
use Rattle.lalrpop_grammar_symbols.specs.contracts.names.NonterminalStringOrd.TheImpl as names
use Rattle.lalrpop_grammar_language.specs.Among.{Among}
use Rattle.lalrpop_grammar_repr.specs.declared.action.ActionFnDefn.{ActionFnDefn}
use Rattle.lalrpop_grammar_repr.specs.declared.action.ActionFnDefnKind.TheVariants as kinds
use Rattle.lalrpop_grammar_repr.specs.declared.action.InlineActionFnDefn.{InlineActionFnDefn}
use Rattle.lalrpop_grammar_repr.specs.declared.action.InlinedSymbol.{InlinedSymbol}
use Rattle.lalrpop_grammar_repr.specs.declared.production.Production.{Production}
use Rattle.lalrpop_grammar_language.specs.Labels.{Label}
use Rattle.lalrpop_grammar_language.specs.Steps.{label_with}
use Rattle.lalrpop_lr1_inline.specs.InlinedNames.{NonterminalEntries, name_of_text}
use Rattle.lalrpop_lr1_inline.specs.InliningSteps.{AreInlineDefinitions, all_records_after, data_after, entries_after, is_place}
use Rattle.lalrpop_lr1_inline.specs.InliningSteps.{production_of_record, productions_after, productions_in_place, productions_named}
use Rattle.lalrpop_lr1_inline.specs.InliningSteps.{productions_of_records, records_after}
use Rattle.lalrpop_lr1_inline.specs.InliningSteps.{records_in_place, records_of, side_of_record}
use Rattle.lalrpop_lr1_inline.specs.NamedProductions.{record_by_labels}
use Rattle.lalrpop_grammar_language.proofs.StepLemmas.{among_right}
use Rattle.lalrpop_grammar_language.proofs.StepLemmas.{among_left}
use Rattle.lalrpop_grammar_language.proofs.OrderLemmas.{among_parts}
use Rattle.lalrpop_lr1_inline.proofs.StepsLemmas.{looked_by}
use Rattle.lalrpop_lr1_inline.proofs.KeptLemmas.{kept_record, label_kept, records_kept, side_kept}

abbrev Made : Type 0
Made = Production × List InlinedSymbol

-- the labels of the numbers from this one on are those of the records
abbrev pub LabelsFrom : (ℕ → Label Text ℕ) → ℕ → List Made → Type 0
LabelsFrom lab k [] = Unit {0}
LabelsFrom lab k (m ∷ ms) =
    (lab k ≡ label_with (lab m.0.action.0) (record_by_labels lab m.1)) × LabelsFrom lab (k + 1) ms

-- where numbers from one on have the labels of two lists of records, they have those of the first
pub labels_front : (lab : ℕ → Label Text ℕ) (k : ℕ) (ms ns : List Made) → LabelsFrom lab k (ms ++ ns) → LabelsFrom lab k ms
labels_front lab k [] ns h = tt
labels_front lab k (m ∷ ms) ns h = (h.0, labels_front lab (k + 1) ms ns h.1)

pub labels_back : (lab : ℕ → Label Text ℕ) (k j : ℕ) (ms ns : List Made) → j ≡ k + length ms → LabelsFrom lab k (ms ++ ns) →
    LabelsFrom lab j ns
labels_back lab k j [] ns e h = subst (λ i. LabelsFrom lab i ns) (omega (arith, e)) h
labels_back lab k j (m ∷ ms) ns e h = labels_back lab (k + 1) j ms ns (omega (arith, e)) h.1

-- what stands right behind a front is found at the length of the front
pub got_at : {A : Type 0} (front : List A) (x : A) (back : List A) → slice_get (front ++ x ∷ back) (length front) ≡ Some x
got_at [] x back = refl
got_at (y ∷ front) x back = got_at front x back

-- the actions that a step adds have such labels
pub labels_made : (lab : ℕ → Label Text ℕ) (least : ℕ) (whole actions : List ActionFnDefn) →
    ((k : ℕ) (d : ActionFnDefn) (i : InlineActionFnDefn) → least ≤ k → slice_get whole k ≡ Some d →
    d.kind ≡ kinds.Inline i →
    lab k ≡ label_with (lab i.action.0) (record_by_labels lab i.symbols)) →
    (ms : List Made) (ds front back : List ActionFnDefn) → AreInlineDefinitions actions ms ds → whole ≡ front ++ (ds ++ back) →
    least ≤ length front → LabelsFrom lab (length front) ms
labels_made lab least whole actions says [] ds front back are e h = tt
labels_made lab least whole actions says (m ∷ ms) [] front back are e h = absurd are
labels_made lab least whole actions says (m ∷ ms) (d ∷ ds) front back are e h =
    let many : length (front ++ d ∷ []) ≡ length front + 1 = length-append front (d ∷ []) in
    let rest = labels_made lab least whole actions says ms ds (front ++ d ∷ []) back are.1
    (e ∙ sym (append_assoc front (d ∷ []) (ds ++ back))) (omega (arith, many, h)) in (
      says (length front) d (record { action = m.0.action; symbols = m.1 }) h
          (ap (λ (l : List ActionFnDefn). slice_get l (length front)) e ∙ got_at front d (ds ++ back)) are.0.kind_is,
      subst (λ i. LabelsFrom lab i ms) many rest,
    )

-- what the step makes of the nonterminal's productions, whose numbers begin somewhere
pub record NamedAfter (lab : ℕ → Label Text ℕ) (n : Text) (ps : List Production) (es after : NonterminalEntries) (x : Text) : Type 0
  where
    pub first : ℕ
    pub productions_are : productions_named after x ≡ productions_after n ps (productions_named es x) first
    pub labels_are : LabelsFrom lab first (records_after n ps (productions_named es x))

-- where a step's records have their labels, so have those of each nonterminal, whose productions it makes
pub named_after : (lab : ℕ → Label Text ℕ) (n : Text) (ps : List Production) (es : NonterminalEntries) (k : ℕ) (x : Text) →
    LabelsFrom lab k (all_records_after n ps es) → NamedAfter lab n ps es (entries_after n ps es k) x
named_after lab n ps [] k x h = record { first = 0; productions_are = refl; labels_are = tt }
named_after lab n ps (e ∷ es) k x h =
    go (is_eq ((names.ghosts).cmp (name_of_text x) e.0)) refl
    (named_after lab n ps es (k + length (records_after n ps e.1.productions)) x
    (labels_back lab k (k + length (records_after n ps e.1.productions)) (records_after n ps e.1.productions)
    (all_records_after n ps es) refl h))
  where
    go : (b : Bool) → is_eq ((names.ghosts).cmp (name_of_text x) e.0) ≡ b →
        NamedAfter lab n ps es (entries_after n ps es (k + length (records_after n ps e.1.productions))) x →
        NamedAfter lab n ps (e ∷ es) (entries_after n ps (e ∷ es) k) x
    go true f later =
        let here = looked_by x e es true f in
        record {
          first = k;
          productions_are =
              looked_by x (e.0, data_after e.1 (productions_after n ps e.1.productions k))
              (entries_after n ps es (k + length (records_after n ps e.1.productions))) true f
              ∙ ap (λ (l : List Production). productions_after n ps l k) (sym here);
          labels_are = subst (λ (l : List Production). LabelsFrom lab k (records_after n ps l)) (sym here)
              (labels_front lab k (records_after n ps e.1.productions) (all_records_after n ps es) h);
        }
    go false f later =
        let here = looked_by x e es false f in
        record {
          first = later.first;
          productions_are =
              looked_by x (e.0, data_after e.1 (productions_after n ps e.1.productions k))
              (entries_after n ps es (k + length (records_after n ps e.1.productions))) false f
              ∙ later.productions_are ∙ ap (λ (l : List Production). productions_after n ps l later.first) (sym here);
          labels_are = subst (λ (l : List Production). LabelsFrom lab later.first (records_after n ps l)) (sym here)
              later.labels_are;
        }

-- the labels behind those of the first production
pub rest_labels : (lab : ℕ → Label Text ℕ) (n : Text) (ps : List Production) (q : Production) (qs : List Production) (k : ℕ) →
    LabelsFrom lab k (records_after n ps (q ∷ qs)) →
    LabelsFrom lab (k + length (records_in_place n ps q)) (records_after n ps qs)
rest_labels lab n ps q qs k h =
    labels_back lab k (k + length (records_in_place n ps q)) (map (λ r. (q, r)) (records_in_place n ps q)) (records_after n ps qs)
    (ap (λ i. k + i) (sym (length-map (records_in_place n ps q) (λ (r : List InlinedSymbol). (q, r))))) h

module _ (lab : ℕ → Label Text ℕ) (n : Text) (ps : List Production) where
  -- the production is what the record makes of the other one
  pub record IsMadeOf (q : Production) (r : List InlinedSymbol) (made : Production) : Type 0 where
    pub is_record : Among (records_of n ps q.symbols) r
    pub label_is : lab made.action.0 ≡ label_with (lab q.action.0) (record_by_labels lab r)
    pub symbols_are : made.symbols ≡ side_of_record r

  -- some record makes it
  pub record IsMade (q : Production) (made : Production) : Type 0 where
    pub entries : List InlinedSymbol
    pub is_made : IsMadeOf q entries made

  -- a production that the step leaves is made of itself
  left_made : (q : Production) → list_any (is_place n) q.symbols ≡ false → IsMadeOf q (kept_record q.symbols) q
  left_made q f = record {
    is_record = subst (λ (l : List (List InlinedSymbol)). Among l (kept_record q.symbols))
        (sym (records_kept n ps q.symbols f)) (inl refl);
    label_is = sym (label_kept lab (lab q.action.0) q.symbols);
    symbols_are = sym (side_kept q.symbols);
  }

  -- each production that records make is made of the production
  each_made : (q : Production) (rs : List (List InlinedSymbol)) (k : ℕ) → LabelsFrom lab k (map (λ r. (q, r)) rs) →
      ((r : List InlinedSymbol) → Among rs r → Among (records_of n ps q.symbols) r) → (made : Production) →
      Among (productions_of_records q rs k) made → IsMade q made
  each_made q [] k h all made i = absurd i
  each_made q (r ∷ rs) k h all made (inl e) = record {
    entries = r;
    is_made =
        subst (IsMadeOf q r) e (record { is_record = all r (inl refl); label_is = h.0; symbols_are = refl });
  }
  each_made q (r ∷ rs) k h all made (inr i) = each_made q rs (k + 1) h.1 (λ s j. all s (inr j)) made i

  pub place_made : (q : Production) (k : ℕ) → LabelsFrom lab k (map (λ r. (q, r)) (records_in_place n ps q)) →
      (made : Production) →
      Among (productions_in_place n ps q k) made → IsMade q made
  place_made q k = go (list_any (is_place n) q.symbols) refl
    where
      go : (b : Bool) → list_any (is_place n) q.symbols ≡ b →
          LabelsFrom lab k (map (λ r. (q, r)) (if b then records_of n ps q.symbols else [])) → (made : Production) →
          Among (if b then productions_of_records q (records_of n ps q.symbols) k else q ∷ []) made → IsMade q made
      go true f h made i = each_made q (records_of n ps q.symbols) k h (λ r j. j) made i
      go false f h made (inl e) =
          record { entries = kept_record q.symbols; is_made = subst (IsMadeOf q (kept_record q.symbols)) e (left_made q f) }
      go false f h made (inr i) = absurd i

  -- and each record makes one
  pub record Makes (q : Production) (r : List InlinedSymbol) (productions : List Production) : Type 0 where
    pub made : Production
    pub stands : Among productions made
    pub is_made : IsMadeOf q r made

  records_make : (q : Production) (rs : List (List InlinedSymbol)) (k : ℕ) → LabelsFrom lab k (map (λ r. (q, r)) rs) →
      ((r : List InlinedSymbol) → Among rs r → Among (records_of n ps q.symbols) r) → (r : List InlinedSymbol) → Among rs r →
      Makes q r (productions_of_records q rs k)
  records_make q [] k h all r i = absurd i
  records_make q (s ∷ rs) k h all r (inl e) =
      subst (λ (t : List InlinedSymbol). Makes q t (productions_of_records q (s ∷ rs) k)) e (record {
        made = production_of_record q s k;
        stands = inl refl;
        is_made = record { is_record = all s (inl refl); label_is = h.0; symbols_are = refl };
      })
  records_make q (s ∷ rs) k h all r (inr i) =
      let m = records_make q rs (k + 1) h.1 (λ t j. all t (inr j)) r i in
      record { made = m.made; stands = inr m.stands; is_made = m.is_made }

  place_makes : (q : Production) (k : ℕ) → LabelsFrom lab k (map (λ r. (q, r)) (records_in_place n ps q)) →
      (r : List InlinedSymbol) →
      Among (records_of n ps q.symbols) r → Makes q r (productions_in_place n ps q k)
  place_makes q k = go (list_any (is_place n) q.symbols) refl
    where
      only : (r : List InlinedSymbol) → list_any (is_place n) q.symbols ≡ false → Among (kept_record q.symbols ∷ []) r →
          Makes q r (q ∷ [])
      only r f (inl e) =
          subst (λ (t : List InlinedSymbol). Makes q t (q ∷ [])) e (record { made = q; stands = inl refl; is_made = left_made q f })
      only r f (inr i) = absurd i

      go : (b : Bool) → list_any (is_place n) q.symbols ≡ b →
          LabelsFrom lab k (map (λ r. (q, r)) (if b then records_of n ps q.symbols else [])) → (r : List InlinedSymbol) →
          Among (records_of n ps q.symbols) r →
          Makes q r (if b then productions_of_records q (records_of n ps q.symbols) k else q ∷ [])
      go true f h r i = records_make q (records_of n ps q.symbols) k h (λ s j. j) r i
      go false f h r i = only r f (subst (λ (l : List (List InlinedSymbol)). Among l r) (records_kept n ps q.symbols f) i)

  -- the same of a list of productions
  pub record ComesFromOne (qs : List Production) (made : Production) : Type 0 where
    pub old : Production
    pub stands : Among qs old
    pub is_made : IsMade old made

  pub after_from : (qs : List Production) (k : ℕ) → LabelsFrom lab k (records_after n ps qs) → (made : Production) →
      Among (productions_after n ps qs k) made → ComesFromOne qs made
  after_from [] k h made i = absurd i
  after_from (q ∷ qs) k h made i =
      go (among_parts (productions_in_place n ps q k) (productions_after n ps qs (k + length (records_in_place n ps q))) made i)
      (place_made q k (labels_front lab k (map (λ r. (q, r)) (records_in_place n ps q)) (records_after n ps qs) h) made)
      (after_from qs (k + length (records_in_place n ps q)) (rest_labels lab n ps q qs k h) made)
    where
      go : Among (productions_in_place n ps q k) made
          ⊎ Among (productions_after n ps qs (k + length (records_in_place n ps q))) made →
          (Among (productions_in_place n ps q k) made → IsMade q made) →
          (Among (productions_after n ps qs (k + length (records_in_place n ps q))) made → ComesFromOne qs made) →
          ComesFromOne (q ∷ qs) made
      go (inl j) f g = record { old = q; stands = inl refl; is_made = f j }
      go (inr j) f g = let w = g j in record { old = w.old; stands = inr w.stands; is_made = w.is_made }

  pub after_makes : (qs : List Production) (k : ℕ) → LabelsFrom lab k (records_after n ps qs) → (q : Production) → Among qs q →
      (r : List InlinedSymbol) → Among (records_of n ps q.symbols) r → Makes q r (productions_after n ps qs k)
  after_makes [] k h q i r j = absurd i
  after_makes (p ∷ qs) k h q (inl e) r j =
      let back : q ≡ p = sym e in
      let m = place_makes p k (labels_front lab k (map (λ s. (p, s)) (records_in_place n ps p)) (records_after n ps qs) h) r
      (subst (λ (x : Production). Among (records_of n ps x.symbols) r) back j) in
      subst (λ (x : Production). Makes x r (productions_after n ps (p ∷ qs) k)) e (record {
        made = m.made;
        stands = among_left (productions_in_place n ps p k) (productions_after n ps qs (k + length (records_in_place n ps p))) m.made
            m.stands;
        is_made = m.is_made;
      })
  after_makes (p ∷ qs) k h q (inr i) r j =
      let m = after_makes qs (k + length (records_in_place n ps p)) (rest_labels lab n ps p qs k h) q i r j in
      record {
        made = m.made;
        stands = among_right (productions_in_place n ps p k) (productions_after n ps qs (k + length (records_in_place n ps p))) m.made
            m.stands;
        is_made = m.is_made;
      }
