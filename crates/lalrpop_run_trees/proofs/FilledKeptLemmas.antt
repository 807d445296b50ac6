-- A label that is filled by entries keeps of a tree what the entries keep of what the label keeps; for the records of actions.
use Rattle.std.proofs.Common.{◌≡◌, ◌+◌, ℕ, List, [], ◌∷◌, ◌++◌, refl, ap, sym, ◌∙◌, arith, subst}
use Rattle.std.proofs.Common.{append_assoc}
use Rattle.std.proofs.lemmas.List.{append-nil}
use Rattle.lalrpop_grammar.specs.Trees.{Tree}
use Rattle.lalrpop_grammar_language.specs.Labels.{Inlinings, Label}
use Rattle.lalrpop_run_trees.specs.ActionLabels.{ChoiceInlinings, ChoiceLabel, fill_all_by_entries, fill_by_entries, kept_count}
use Rattle.lalrpop_run_trees.specs.ActionLabels.{kept_counts, label_of_entries}
use Rattle.lalrpop_run_trees.proofs.FillLemmas.{symbol_count}
use Rattle.lalrpop_run_trees.specs.KeptTrees.{AreAllKeptBy, AreKeptBy}
use Rattle.lalrpop_run_trees.proofs.KeptLemmas.{cons_same}

-- What the filled label keeps, and what the entries that are left keep.
record FillsKept (Kept : List Tree → Type 0) (entries : ChoiceInlinings) (left us : List Tree) : Type 0 where
  front : List Tree
  back : List Tree
  trees_are : us ≡ front ++ back
  is_kept : Kept front
  rest : AreAllKeptBy entries left back

mutual
  filled_on : (label : ChoiceLabel) (entries : ChoiceInlinings) (t : Tree) (ws left us : List Tree) → AreKeptBy label t ws →
      AreAllKeptBy entries (ws ++ left) us →
      FillsKept (AreKeptBy (fill_by_entries label entries).0 t) (fill_by_entries label entries).1 left us
  filled_on (Label.choose x o inlinings) entries t ws left us (children, by, all) h =
      let r = all_filled_on inlinings entries children ws left us all h in
      record { front = r.front; back = r.back; trees_are = r.trees_are; is_kept = (children, by, r.is_kept); rest = r.rest }

  all_filled_on : (inlinings entries : ChoiceInlinings) (children ws left us : List Tree) → AreAllKeptBy inlinings children ws →
      AreAllKeptBy entries (ws ++ left) us →
      FillsKept (AreAllKeptBy (fill_all_by_entries inlinings entries).0 children) (fill_all_by_entries inlinings entries).1 left us
  all_filled_on Inlinings.none entries children ws left us k h =
      record {
        front = [];
        back = us;
        trees_are = refl;
        is_kept = (k.0, refl);
        rest = subst (λ l. AreAllKeptBy entries (l ++ left) us) k.1 h;
      }
  all_filled_on (Inlinings.kept inlinings) Inlinings.none children ws left us k h =
      absurd (some_none k.first (k.left ++ left) (ap (λ l. l ++ left) (sym k.trees_are) ∙ h.0))
    where
      some_none : (u : Tree) (l : List Tree) → u ∷ l ≡ [] → ⊥
      some_none u l e = absurd (cc)
  all_filled_on (Inlinings.kept inlinings) (Inlinings.kept entries) children ws left us k h =
      let same = cons_same h.first k.first h.others (k.left ++ left) (sym h.children_are ∙ ap (λ l. l ++ left) k.trees_are) in
      let r = all_filled_on inlinings entries k.others k.left left h.left k.rest
      (subst (λ l. AreAllKeptBy entries l h.left) same.1 h.rest) in
      record {
        front = h.first ∷ r.front;
        back = r.back;
        trees_are = h.trees_are ∙ ap (λ l. h.first ∷ l) r.trees_are;
        is_kept = record {
          first = k.first;
          others = k.others;
          left = r.front;
          children_are = k.children_are;
          trees_are = ap (λ u. u ∷ r.front) same.0;
          rest = r.is_kept;
        };
        rest = r.rest;
      }
  all_filled_on (Inlinings.kept inlinings) (Inlinings.inlined label entries) children ws left us k h =
      let same = cons_same h.first k.first h.others (k.left ++ left) (sym h.children_are ∙ ap (λ l. l ++ left) k.trees_are) in
      let r = all_filled_on inlinings entries k.others k.left left h.left k.rest
      (subst (λ l. AreAllKeptBy entries l h.left) same.1 h.rest) in
      record {
        front = h.front ++ r.front;
        back = r.back;
        trees_are = h.trees_are ∙ ap (λ l. h.front ++ l) r.trees_are ∙ sym (append_assoc h.front r.front r.back);
        is_kept = record {
          first = k.first;
          others = k.others;
          front = h.front;
          left = r.front;
          children_are = k.children_are;
          trees_are = refl;
          kept = subst (λ u. AreKeptBy label u h.front) same.0 h.kept;
          rest = r.is_kept;
        };
        rest = r.rest;
      }
  all_filled_on (Inlinings.inlined label inlinings) entries children ws left us k h =
      let a = filled_on label entries k.first k.front (k.left ++ left) us k.kept
      (subst (λ l. AreAllKeptBy entries l us) (ap (λ l. l ++ left) k.trees_are ∙ append_assoc k.front k.left left) h) in
      let b = all_filled_on inlinings (fill_by_entries label entries).1 k.others k.left left a.back k.rest a.rest in
      record {
        front = a.front ++ b.front;
        back = b.back;
        trees_are = a.trees_are ∙ ap (λ l. a.front ++ l) b.trees_are ∙ sym (append_assoc a.front b.front b.back);
        is_kept = record {
          first = k.first;
          others = k.others;
          front = a.front;
          left = b.front;
          children_are = k.children_are;
          trees_are = refl;
          kept = a.is_kept;
          rest = b.is_kept;
        };
        rest = b.rest;
      }

joined : (entries : ChoiceInlinings) (ws more left fs gs back front : List Tree) → front ≡ fs ++ gs →
    AreAllKeptBy entries (ws ++ (more ++ left)) (fs ++ (gs ++ back)) → AreAllKeptBy entries ((ws ++ more) ++ left) (front ++ back)
joined entries ws more left fs gs back front e h =
    subst (λ l. AreAllKeptBy entries l (front ++ back)) (sym (append_assoc ws more left))
    (subst (λ l. AreAllKeptBy entries (ws ++ (more ++ left)) l) (sym (ap (λ l. l ++ back) e ∙ append_assoc fs gs back)) h)

-- The other way: what the label keeps, so that the entries keep the trees of it and of what is left.
record UnfillsKept (Kept : List Tree → Type 0) (entries : ChoiceInlinings) (left us : List Tree) : Type 0 where
  whole : List Tree
  is_kept : Kept whole
  all : AreAllKeptBy entries (whole ++ left) us

mutual
  filled_back : (label : ChoiceLabel) (entries : ChoiceInlinings) (t : Tree) (left front back : List Tree) (n : ℕ) →
      symbol_count entries ≡ kept_count label + n → AreKeptBy (fill_by_entries label entries).0 t front →
      AreAllKeptBy (fill_by_entries label entries).1 left back → UnfillsKept (AreKeptBy label t) entries left (front ++ back)
  filled_back (Label.choose x o inlinings) entries t left front back n e (children, by, all) rest =
      let r = all_filled_back inlinings entries children left front back n e all rest in
      record { whole = r.whole; is_kept = (children, by, r.is_kept); all = r.all }

  all_filled_back : (inlinings entries : ChoiceInlinings) (children left front back : List Tree) (n : ℕ) →
      symbol_count entries ≡ kept_counts inlinings + n → AreAllKeptBy (fill_all_by_entries inlinings entries).0 children front →
      AreAllKeptBy (fill_all_by_entries inlinings entries).1 left back →
      UnfillsKept (AreAllKeptBy inlinings children) entries left (front ++ back)
  all_filled_back Inlinings.none entries children left front back n e k h =
      record { whole = []; is_kept = (k.0, refl); all = subst (λ l. AreAllKeptBy entries left (l ++ back)) (sym k.1) h }
  all_filled_back (Inlinings.kept inlinings) Inlinings.none children left front back n e k h = absurd (omega (arith, e))
  all_filled_back (Inlinings.kept inlinings) (Inlinings.kept entries) children left front back n e k h =
      let r = all_filled_back inlinings entries k.others left k.left back n (omega (arith, e)) k.rest h in
      record {
        whole = k.first ∷ r.whole;
        is_kept = record {
          first = k.first;
          others = k.others;
          left = r.whole;
          children_are = k.children_are;
          trees_are = refl;
          rest = r.is_kept;
        };
        all = record {
          first = k.first;
          others = r.whole ++ left;
          left = k.left ++ back;
          children_are = refl;
          trees_are = ap (λ l. l ++ back) k.trees_are;
          rest = r.all;
        };
      }
  all_filled_back (Inlinings.kept inlinings) (Inlinings.inlined label entries) children left front back n e k h =
      let r = all_filled_back inlinings entries k.others left k.left back n (omega (arith, e)) k.rest h in
      record {
        whole = k.first ∷ r.whole;
        is_kept = record {
          first = k.first;
          others = k.others;
          left = r.whole;
          children_are = k.children_are;
          trees_are = refl;
          rest = r.is_kept;
        };
        all = record {
          first = k.first;
          others = r.whole ++ left;
          front = k.front;
          left = k.left ++ back;
          children_are = refl;
          trees_are = ap (λ l. l ++ back) k.trees_are ∙ append_assoc k.front k.left back;
          kept = k.kept;
          rest = r.all;
        };
      }
  all_filled_back (Inlinings.inlined label inlinings) entries children left front back n e k h =
      let counted = left_count label entries (kept_counts inlinings + n) (omega (arith, e)) in
      let b = all_filled_back inlinings (fill_by_entries label entries).1 k.others left k.left back n counted k.rest h in
      let a = filled_back label entries k.first (b.whole ++ left) k.front (k.left ++ back) (kept_counts inlinings + n)
      (omega (arith, e)) k.kept b.all in
      record {
        whole = a.whole ++ b.whole;
        is_kept = record {
          first = k.first;
          others = k.others;
          front = a.whole;
          left = b.whole;
          children_are = k.children_are;
          trees_are = refl;
          kept = a.is_kept;
          rest = b.is_kept;
        };
        all = joined entries a.whole b.whole left k.front k.left back front k.trees_are a.all;
      }

  -- how many entries are left
  left_count : (label : ChoiceLabel) (entries : ChoiceInlinings) (n : ℕ) → symbol_count entries ≡ kept_count label + n →
      symbol_count (fill_by_entries label entries).1 ≡ n
  left_count (Label.choose x o inlinings) entries n e = all_left_count inlinings entries n e

  all_left_count : (inlinings entries : ChoiceInlinings) (n : ℕ) → symbol_count entries ≡ kept_counts inlinings + n →
      symbol_count (fill_all_by_entries inlinings entries).1 ≡ n
  all_left_count Inlinings.none entries n e = omega (arith, e)
  all_left_count (Inlinings.kept inlinings) Inlinings.none n e = absurd (omega (arith, e))
  all_left_count (Inlinings.kept inlinings) (Inlinings.kept entries) n e = all_left_count inlinings entries n (omega (arith, e))
  all_left_count (Inlinings.kept inlinings) (Inlinings.inlined label entries) n e =
      all_left_count inlinings entries n (omega (arith, e))
  all_left_count (Inlinings.inlined label inlinings) entries n e =
      all_left_count inlinings (fill_by_entries label entries).1 n
      (left_count label entries (kept_counts inlinings + n) (omega (arith, e)))

no_entry_left : (entries : ChoiceInlinings) (us : List Tree) → symbol_count entries ≡ 0 → AreAllKeptBy entries [] us → us ≡ []
no_entry_left Inlinings.none us e h = h.1
no_entry_left (Inlinings.kept entries) us e h = absurd (omega (arith, e))
no_entry_left (Inlinings.inlined label entries) us e h = absurd (omega (arith, e))

none_left : (entries : ChoiceInlinings) → symbol_count entries ≡ 0 → AreAllKeptBy entries [] []
none_left Inlinings.none e = (refl, refl)
none_left (Inlinings.kept entries) e = absurd (omega (arith, e))
none_left (Inlinings.inlined label entries) e = absurd (omega (arith, e))

module _ (label : ChoiceLabel) (entries : ChoiceInlinings) (counted : symbol_count entries ≡ kept_count label) where
  -- what the entries keep of what the label keeps, the filled label keeps
  pub kept_by_filled : (t : Tree) (ws us : List Tree) → AreKeptBy label t ws → AreAllKeptBy entries ws us →
      AreKeptBy (label_of_entries label entries) t us
  kept_by_filled t ws us k h =
      let f = filled_on label entries t ws [] us k (subst (λ l. AreAllKeptBy entries l us) (sym (append-nil ws)) h) in
      let none : f.back ≡ [] =
      no_entry_left (fill_by_entries label entries).1 f.back (left_count label entries 0 (omega (arith, counted))) f.rest in
      subst (λ l. AreKeptBy (label_of_entries label entries) t l)
      (sym (f.trees_are ∙ ap (λ l. f.front ++ l) none ∙ append-nil f.front)) f.is_kept

  -- and the other way round
  pub filled_is_kept : (t : Tree) (us : List Tree) → AreKeptBy (label_of_entries label entries) t us →
      (ws : List Tree) × AreKeptBy label t ws × AreAllKeptBy entries ws us
  filled_is_kept t us k =
      let f = filled_back label entries t [] us [] 0 (omega (arith, counted)) k
      (none_left (fill_by_entries label entries).1 (left_count label entries 0 (omega (arith, counted)))) in (
        f.whole,
        f.is_kept,
        subst (λ l. AreAllKeptBy entries l us) (append-nil f.whole)
            (subst (λ l. AreAllKeptBy entries (f.whole ++ []) l) (append-nil us) f.all),
      )
