-- After a step of inlining the productions of each nonterminal stand in the order of their labels, and are numbered in theirs, where they did
-- before it; for the numbers of an inlined grammar.
use Rattle.std.proofs.Common.{◌≡◌, ◌∙◌, ◌≤◌, ◌<◌, ◌+◌, ◌⊎◌, inl, inr, ℕ, suc, List, [], ◌∷◌, ap, arith, length, map, refl, subst, sym}
use Rattle.std.proofs.Common.{true, false, take}
use Rattle.std.specs.Prelude.{Bool, if◌then◌else◌}
use Rattle.std.specs.List.{list_any}
use Rattle.std.specs.Ordering.{is_eq}
use Rattle.lalrpop_grammar_symbols.specs.Symbols.{Text}
use Rattle.lalrpop_grammar_symbols.specs.contracts.names.NonterminalStringOrd.TheImpl as names
use Rattle.lalrpop_grammar_language.specs.Among.{Among}
use Rattle.lalrpop_grammar_language.specs.Labels.{BaseProductions, GrammarSymbols, Label}
use Rattle.lalrpop_grammar_language.specs.Inlining.{HaveOneSide, Inlines}
use Rattle.lalrpop_grammar_language.specs.Steps.{IsRecord, NeverNamesItself, OneMore, label_with, symbols_after, symbols_before}
use Rattle.lalrpop_grammar_language.proofs.AmongLemmas.{among_contains, contains_among}
use Rattle.lalrpop_grammar_language.proofs.OrderLemmas.{among_parts}
use Rattle.lalrpop_grammar_language.proofs.StepLemmas.{Lacks}
use Rattle.lalrpop_grammar_repr.specs.declared.action.InlinedSymbol.{InlinedSymbol}
use Rattle.lalrpop_grammar_repr.specs.declared.production.Production.{Production}
use Rattle.lalrpop_grammar_repr.specs.declared.production.Symbol.{Symbol}
use Rattle.lalrpop_lr1_inline.specs.InlinedNames.{NonterminalEntries, name_of_text}
use Rattle.lalrpop_lr1_inline.specs.InliningSteps.{all_records_after, data_after, entries_after, is_place, production_of_record}
use Rattle.lalrpop_lr1_inline.specs.InliningSteps.{productions_after, productions_in_place, productions_named, productions_of_records}
use Rattle.lalrpop_lr1_inline.specs.InliningSteps.{records_after, records_in_place, records_of, side_of_record}
use Rattle.lalrpop_lr1_inline.specs.NamedProductions.{record_by_labels, side_by_names}
use Rattle.lalrpop_lr1_inline.proofs.MadeLabelLemmas.{IsMade, LabelsFrom, after_from, labels_back, labels_front, place_made}
use Rattle.lalrpop_lr1_inline.proofs.MadeLabelLemmas.{rest_labels}
use Rattle.lalrpop_lr1_inline.proofs.RecordLabelLemmas.{record_is}
use Rattle.lalrpop_lr1_inline.proofs.StepLabelLemmas.{AreProductionsBy}
use Rattle.lalrpop_lr1_inline.proofs.StepsLemmas.{looked_by}
use Rattle.lalrpop_run.specs.ProductionOrders.{IsInlinedSooner, IsLabelBefore, IsMadeWithin, IsNumberedBefore}
use Rattle.lalrpop_run.proofs.LabelStepLemmas.{made_within, not_within, records_apart, sources_apart, within_steps}
use Rattle.lalrpop_run.proofs.OrderedListLemmas.{AreInOrder, first_in_order, in_order_behind, joined_in_order, none_in_order, one_in_order}
use Rattle.lalrpop_run.proofs.RecordOrderLemmas.{IsBeforeIn, IsMadeAt, StandsInPlace, made_at, place_there, records_in_order}
use Rattle.lalrpop_run.proofs.RecordOrderLemmas.{stands_in_place}
use Rattle.lalrpop_run.proofs.SoonerLemmas.{among_take_more, never_made_sooner}

-- The productions that a step makes of a nonterminal's, their numbers from one that isn't below those that the step hands out.
pub record IsNamedFrom (lab : ℕ → Label Text ℕ) (n : Text) (ps : List Production) (es : NonterminalEntries) (k : ℕ)
    (after : NonterminalEntries) (x : Text) : Type 0 where
  pub first : ℕ
  pub far : k ≤ first
  pub productions_are : productions_named after x ≡ productions_after n ps (productions_named es x) first
  pub labels_are : LabelsFrom lab first (records_after n ps (productions_named es x))

pub named_from : (lab : ℕ → Label Text ℕ) (n : Text) (ps : List Production) (es : NonterminalEntries) (k : ℕ) (x : Text) →
    LabelsFrom lab k (all_records_after n ps es) → IsNamedFrom lab n ps es k (entries_after n ps es k) x
named_from lab n ps [] k x h = record { first = k; far = omega arith; productions_are = refl; labels_are = tt }
named_from lab n ps (e ∷ es) k x h =
    go (is_eq ((names.ghosts).cmp (name_of_text x) e.0)) refl
    (named_from lab n ps es next x (labels_back lab k next (records_after n ps e.1.productions) (all_records_after n ps es) refl h))
  where
    next : ℕ
    next = k + length (records_after n ps e.1.productions)

    go : (b : Bool) → is_eq ((names.ghosts).cmp (name_of_text x) e.0) ≡ b →
        IsNamedFrom lab n ps es (k + length (records_after n ps e.1.productions))
        (entries_after n ps es (k + length (records_after n ps e.1.productions))) x →
        IsNamedFrom lab n ps (e ∷ es) k (entries_after n ps (e ∷ es) k) x
    go true f later =
        let here = looked_by x e es true f in
        record {
          first = k;
          far = omega arith;
          productions_are =
              looked_by x (e.0, data_after e.1 (productions_after n ps e.1.productions k))
              (entries_after n ps es (k + length (records_after n ps e.1.productions))) true f
              ∙ ap (λ (l : List Production). productions_after n ps l k) (sym here);
          labels_are = subst (λ (l : List Production). LabelsFrom lab k (records_after n ps l)) (sym here)
              (labels_front lab k (records_after n ps e.1.productions) (all_records_after n ps es) h);
        }
    go false f later =
        let here = looked_by x e es false f in
        record {
          first = later.first;
          far = omega (arith, later.far);
          productions_are =
              looked_by x (e.0, data_after e.1 (productions_after n ps e.1.productions k))
              (entries_after n ps es (k + length (records_after n ps e.1.productions))) false f
              ∙ later.productions_are ∙ ap (λ (l : List Production). productions_after n ps l later.first) (sym here);
          labels_are = subst (λ (l : List Production). LabelsFrom lab later.first (records_after n ps l)) (sym here) later.labels_are;
        }

-- productions by their labels
module _ (IsBefore : ℕ → ℕ → Type 0) (order : List Text) (lab : ℕ → Label Text ℕ) where
  abbrev pub StandsBefore : Production → Production → Type 0
  StandsBefore p q = IsLabelBefore Text ℕ IsBefore order (lab p.action.0) (lab q.action.0)

  abbrev pub HasSmallerNumber : Production → Production → Type 0
  HasSmallerNumber p q =
      IsNumberedBefore Text ℕ IsBefore order (lab p.action.0) (lab q.action.0) × (p.action.0 < q.action.0)

  -- the one stands before the other, and their actions are numbered in the order of their labels
  abbrev pub AreOrdered : Production → Production → Type 0
  AreOrdered p q = StandsBefore p q × (HasSmallerNumber p q ⊎ HasSmallerNumber q p)

module _ (M : BaseProductions Text ℕ) (IsBefore : ℕ → ℕ → Type 0) (order front : List Text) (n : Text)
    (front_is : take (length front) order ≡ front) (more : (y : Text) → OneMore (λ x. Among front x) n y
    → Among (take (suc (length front)) order) y) (fresh : Among front n → ⊥) (one : HaveOneSide M)
    (never : (x : Text) (label : Label Text ℕ) (side : GrammarSymbols Text) → Among front x → Inlines M (λ y. Among front y) x label side
    → Lacks side n) (itself : NeverNamesItself M (λ x. Among front x) n) (lab : ℕ → Label Text ℕ) (es : NonterminalEntries)
    (are : AreProductionsBy M (λ x. Among front x) lab es) (least : ℕ)
    (small : (x : Text) (p : Production) → Among (productions_named es x) p → p.action.0 < least)
    (ordered : (x : Text) → AreInOrder (AreOrdered IsBefore order lab) (productions_named es x)) where
  abbrev In : Text → Type 0
  In x = Among front x

  abbrev ps : List Production
  ps = productions_named es n

  abbrev Less : Label Text ℕ → Label Text ℕ → Type 0
  Less l m = IsLabelBefore Text ℕ IsBefore order l m

  abbrev Ordered : Production → Production → Type 0
  Ordered p q = AreOrdered IsBefore order lab p q

  abbrev Named : Text → Production → Type 0
  Named x q = Among (productions_named es x) q

  sooner : (y : Text) → In y → IsInlinedSooner order y n
  sooner y i = (
    length front,
    subst (λ (l : List Text). Among l y) (sym front_is) i,
    λ j. fresh (subst (λ (l : List Text). Among l n) front_is j),
  )

  not_yet : (k : ℕ) → k ≤ length front → Among (take k order) n → ⊥
  not_yet k l i =
      fresh (subst (λ (f : List Text). Among f n) front_is (among_take_more k (length front) order n l i))

  abbrev IsRecordFor : List Symbol → List InlinedSymbol → Type 0
  IsRecordFor side r =
      IsRecord M In n (record_by_labels lab r) × (symbols_before n (record_by_labels lab r) ≡ side_by_names side)
      × (symbols_after (record_by_labels lab r) ≡ side_by_names (side_of_record r))

  record_for : (side : List Symbol) (r : List InlinedSymbol) → Among (records_of n ps side) r → IsRecordFor side r
  record_for side r i = record_is M In n ps lab (are.sound n) side r i

  -- what is made of two productions of a nonterminal

  before_kept : (x : Text) (p q a b : Production) → Named x p → Named x q → StandsBefore IsBefore order lab p q →
      IsMade lab n ps p a → IsMade lab n ps q b → StandsBefore IsBefore order lab a b
  before_kept x p q a b i j less m w =
      let d = record_for p.symbols m.entries m.is_made.is_record in
      let e = record_for q.symbols w.entries w.is_made.is_record in
      subst (λ (l : Label Text ℕ). Less l (lab b.action.0)) (sym m.is_made.label_is)
      (subst (λ (l : Label Text ℕ). Less (label_with (lab p.action.0) (record_by_labels lab m.entries)) l) (sym w.is_made.label_is)
      (sources_apart M In n one fresh never itself IsBefore order sooner (lab p.action.0) (lab q.action.0) less x
      (side_by_names p.symbols) (side_by_names q.symbols) (record_by_labels lab m.entries) (record_by_labels lab w.entries)
      (are.sound x p i) (are.sound x q j) d.0 e.0 d.1 e.1))

  old_within : (x : Text) (q : Production) → Named x q → IsMadeWithin order (length front) (lab q.action.0)
  old_within x q i =
      within_steps M order front (length front) front_is x (lab q.action.0) (side_by_names q.symbols) (are.sound x q i)

  module _ (x : Text) (q : Production) (i : Among (productions_named es x) q)
      (there : list_any (is_place n) q.symbols ≡ true) (low high : ℕ) (made : Production)
      (m : IsMadeAt lab n ps q (records_of n ps q.symbols) low high made) where
    new_late : (k : ℕ) → k ≤ length front → IsMadeWithin order k (lab made.action.0) → ⊥
    new_late k l h =
        let d = record_for q.symbols m.entries m.is_one in
        not_within M In n one fresh never itself IsBefore order sooner x (lab q.action.0) (side_by_names q.symbols)
        (record_by_labels lab m.entries) (are.sound x q i) d.0 d.1 (place_there n q.symbols there) k (not_yet k l)
        (subst (λ (z : Label Text ℕ). IsMadeWithin order k z) m.label_is h)

    new_within : IsMadeWithin order (suc (length front)) (lab made.action.0)
    new_within =
        let d = record_for q.symbols m.entries m.is_one in
        subst (λ (z : Label Text ℕ). IsMadeWithin order (suc (length front)) z) (sym m.label_is)
        (made_within M In n one fresh never itself IsBefore order sooner x (lab q.action.0) (side_by_names q.symbols)
        (record_by_labels lab m.entries) (are.sound x q i) d.0 d.1 (suc (length front)) more)

  -- of what stands in their places, the one's numbers before the other's, the numbers are in order
  numbers_kept : (x : Text) (p q a b : Production) → Named x p → Named x q → Ordered p q → (low high next end : ℕ) → least ≤ low →
      least ≤ next → high ≤ next → StandsInPlace lab n ps p low high a → StandsInPlace lab n ps q next end b →
      StandsBefore IsBefore order lab a b → HasSmallerNumber IsBefore order lab a b ⊎ HasSmallerNumber IsBefore order lab b a
  numbers_kept x p q a b i j o low high next end far distant behind (inl e) (inl f) less =
      subst (λ (z : Production). HasSmallerNumber IsBefore order lab z b ⊎ HasSmallerNumber IsBefore order lab b z) e
      (subst (λ (z : Production). HasSmallerNumber IsBefore order lab p z ⊎ HasSmallerNumber IsBefore order lab z p) f o.1)
  numbers_kept x p q a b i j o low high next end far distant behind (inl e) (inr w) less =
      let number : p.action.0 ≡ a.action.0 = ap (λ (z : Production). z.action.0) e in
      let old = small x p i in
      let new = w.1.low_is in
      inl (
        inl (
          length front,
          subst (λ (z : Production). IsMadeWithin order (length front) (lab z.action.0)) e (old_within x p i),
          new_late x q j w.0 next end b w.1 (length front) (omega arith),
        ),
        omega (arith, number, old, new, distant),
      )
  numbers_kept x p q a b i j o low high next end far distant behind (inr w) (inl f) less =
      let number : q.action.0 ≡ b.action.0 = ap (λ (z : Production). z.action.0) f in
      let old = small x q j in
      let new = w.1.low_is in
      inr (
        inl (
          length front,
          subst (λ (z : Production). IsMadeWithin order (length front) (lab z.action.0)) f (old_within x q j),
          new_late x p i w.0 low high a w.1 (length front) (omega arith),
        ),
        omega (arith, number, old, new, far),
      )
  numbers_kept x p q a b i j o low high next end far distant behind (inr v) (inr w) less =
      let one_high = v.1.high_is in
      let two_low = w.1.low_is in
      inl (
        inr (
          never_made_sooner order (length front) (lab b.action.0) (lab a.action.0) (new_late x q j w.0 next end b w.1)
              (new_within x p i v.0 low high a v.1),
          less,
        ),
        omega (arith, one_high, two_low, behind),
      )

  -- what records in order make of one production

  of_records : (x : Text) (q : Production) → Named x q → list_any (is_place n) q.symbols ≡ true → (rs : List (List InlinedSymbol)) →
      ((r : List InlinedSymbol) → Among rs r → Among (records_of n ps q.symbols) r) → AreInOrder (IsBeforeIn lab Less n ps) rs →
      (k : ℕ) → LabelsFrom lab k (map (λ r. (q, r)) rs) → AreInOrder Ordered (productions_of_records q rs k)
  of_records x q i there [] all o k h = none_in_order Ordered
  of_records x q i there (r ∷ rs) all o k h =
      joined_in_order Ordered (production_of_record q r k ∷ []) (productions_of_records q rs (k + 1))
      (one_in_order Ordered (production_of_record q r k))
      (of_records x q i there rs (λ t j. all t (inr j)) (in_order_behind (IsBeforeIn lab Less n ps) r rs o) (k + 1) h.1)
      (λ a b c d. cross a b (contains_among (production_of_record q r k ∷ []) a c)
      (contains_among (productions_of_records q rs (k + 1)) b d))
    where
      here : IsMadeAt lab n ps q (records_of n ps q.symbols) k (k + 1) (production_of_record q r k)
      here = record {
        entries = r;
        is_one = all r (inl refl);
        label_is = h.0;
        low_is = omega arith;
        high_is = omega arith;
      }

      pair : (b : Production) → Among (productions_of_records q rs (k + 1)) b → Ordered (production_of_record q r k) b
      pair b j =
          let w = made_at lab n ps q rs (k + 1) h.1 b j in
          let later : IsMadeAt lab n ps q (records_of n ps q.symbols) (k + 1) (k + 1 + length rs) b =
          record {
            entries = w.entries;
            is_one = all w.entries (inr w.is_one);
            label_is = w.label_is;
            low_is = w.low_is;
            high_is = w.high_is;
          } in
          let d = record_for q.symbols r (all r (inl refl)) in
          let e = record_for q.symbols w.entries (all w.entries (inr w.is_one)) in
          let less : Less (lab k) (lab b.action.0) =
          subst (λ (l : Label Text ℕ). Less l (lab b.action.0)) (sym h.0)
          (subst (λ (l : Label Text ℕ). Less (label_with (lab q.action.0) (record_by_labels lab r)) l) (sym w.label_is)
          (records_apart M In n one fresh never itself IsBefore order sooner x (lab q.action.0) (side_by_names q.symbols)
          (record_by_labels lab r) (record_by_labels lab w.entries) (are.sound x q i) d.0 e.0 d.1 e.1
          (first_in_order (IsBeforeIn lab Less n ps) r rs o w.entries (among_contains rs w.entries w.is_one)))) in
          let low = w.low_is in (
            less,
            inl (
              inr (
                never_made_sooner order (length front) (lab b.action.0) (lab k)
                    (new_late x q i there (k + 1) (k + 1 + length rs) b later)
                    (new_within x q i there k (k + 1) (production_of_record q r k) here),
                less,
              ),
              omega (arith, low),
            ),
          )

      cross : (a b : Production) → Among (production_of_record q r k ∷ []) a → Among (productions_of_records q rs (k + 1)) b →
          Ordered a b
      cross a b (inl e) j = subst (λ (z : Production). Ordered z b) e (pair b j)
      cross a b (inr none) j = absurd none

  -- what stands in the place of one
  of_place : (x : Text) (q : Production) → Named x q → (k : ℕ) →
      LabelsFrom lab k (map (λ r. (q, r)) (records_in_place n ps q)) → AreInOrder Ordered (productions_in_place n ps q k)
  of_place x q i k = go (list_any (is_place n) q.symbols) refl
    where
      go : (b : Bool) → list_any (is_place n) q.symbols ≡ b →
          LabelsFrom lab k (map (λ r. (q, r)) (if b then records_of n ps q.symbols else [])) →
          AreInOrder Ordered (if b then productions_of_records q (records_of n ps q.symbols) k else q ∷ [])
      go true f h =
          of_records x q i f (records_of n ps q.symbols) (λ r j. j)
          (records_in_order lab Less n ps (λ u v p t l e g. (ordered n u v p t l e g).0) q.symbols) k h
      go false f h = one_in_order Ordered q

  -- It stands in the place of one of these, with a number from this one on.
  record StandsBehind (qs : List Production) (low : ℕ) (made : Production) : Type 0 where
    old : Production
    is_one : Among qs old
    next : ℕ
    end : ℕ
    far : low ≤ next
    stands : StandsInPlace lab n ps old next end made

  stands_behind : (qs : List Production) (k : ℕ) → LabelsFrom lab k (records_after n ps qs) → (made : Production) →
      Among (productions_after n ps qs k) made → StandsBehind qs k made
  stands_behind [] k h made i = absurd i
  stands_behind (q ∷ qs) k h made i =
      go (among_parts (productions_in_place n ps q k) (productions_after n ps qs (k + length (records_in_place n ps q))) made i)
      (stands_behind qs (k + length (records_in_place n ps q)) (rest_labels lab n ps q qs k h) made)
    where
      go : Among (productions_in_place n ps q k) made
          ⊎ Among (productions_after n ps qs (k + length (records_in_place n ps q))) made →
          (Among (productions_after n ps qs (k + length (records_in_place n ps q))) made →
          StandsBehind qs (k + length (records_in_place n ps q)) made) → StandsBehind (q ∷ qs) k made
      go (inl j) later = record {
        old = q;
        is_one = inl refl;
        next = k;
        end = k + length (records_in_place n ps q);
        far = omega arith;
        stands =
            stands_in_place lab n ps q k (labels_front lab k (map (λ r. (q, r)) (records_in_place n ps q)) (records_after n ps qs) h)
            made j;
      }
      go (inr j) later =
          let w = later j in
          record {
            old = w.old;
            is_one = inr w.is_one;
            next = w.next;
            end = w.end;
            far = omega (arith, w.far);
            stands = w.stands;
          }

  -- what the step makes of productions in order is in order
  of_all : (x : Text) (qs : List Production) → ((q : Production) → Among qs q → Named x q) → (k : ℕ) → least ≤ k →
      LabelsFrom lab k (records_after n ps qs) → AreInOrder Ordered qs → AreInOrder Ordered (productions_after n ps qs k)
  of_all x [] inside k far h o = none_in_order Ordered
  of_all x (q ∷ qs) inside k far h o =
      joined_in_order Ordered (productions_in_place n ps q k) (productions_after n ps qs next) (of_place x q (inside q (inl refl)) k first)
      (of_all x qs (λ p i. inside p (inr i)) next (omega (arith, far)) rest (in_order_behind Ordered q qs o))
      (λ a b c d. cross a b (contains_among (productions_in_place n ps q k) a c)
      (contains_among (productions_after n ps qs next) b d))
    where
      next : ℕ
      next = k + length (records_in_place n ps q)

      first : LabelsFrom lab k (map (λ r. (q, r)) (records_in_place n ps q))
      first = labels_front lab k (map (λ r. (q, r)) (records_in_place n ps q)) (records_after n ps qs) h

      rest : LabelsFrom lab (k + length (records_in_place n ps q)) (records_after n ps qs)
      rest = rest_labels lab n ps q qs k h

      cross : (a b : Production) → Among (productions_in_place n ps q k) a →
          Among (productions_after n ps qs (k + length (records_in_place n ps q))) b → Ordered a b
      cross a b i j =
          let u = stands_in_place lab n ps q k first a i in
          let v = stands_behind qs (k + length (records_in_place n ps q)) rest b j in
          let w = after_from lab n ps qs (k + length (records_in_place n ps q)) rest b j in
          let one = inside q (inl refl) in
          let less = before_kept x q w.old a b one (inside w.old (inr w.stands))
          (first_in_order Ordered q qs o w.old (among_contains qs w.old w.stands)).0 (place_made lab n ps q k first a i) w.is_made in
          let behind = v.far in (
            less,
            numbers_kept x q v.old a b one (inside v.old (inr v.is_one))
                (first_in_order Ordered q qs o v.old (among_contains qs v.old v.is_one)) k (k + length (records_in_place n ps q)) v.next
                v.end far (omega (arith, far, behind)) (omega (arith, behind)) u v.stands less,
          )

  -- so it is of each nonterminal after the step
  pub step_in_order : LabelsFrom lab least (all_records_after n (productions_named es n) es) → (x : Text) →
      AreInOrder (AreOrdered IsBefore order lab) (productions_named (entries_after n (productions_named es n) es least) x)
  step_in_order h x =
      let w = named_from lab n ps es least x h in
      subst (λ (l : List Production). AreInOrder Ordered l) (sym w.productions_are)
      (of_all x (productions_named es x) (λ q i. i) w.first w.far w.labels_are (ordered x))
