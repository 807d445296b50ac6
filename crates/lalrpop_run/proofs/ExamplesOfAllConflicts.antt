-- The one conflict of a grammar in which two productions have the same symbols, and lists that aren't right: a test of the definitions.
use Rattle.std.proofs.Common.{◌≡◌, ◌∙◌, ◌⊎◌, ◌<◌, inl, inr, ⊎_elim, ℕ, zero, suc, List, [], ◌∷◌, ◌++◌, length, drop, Some, None, Contains}
use Rattle.std.proofs.Common.{ap, sym, refl, subst, arith}
use Rattle.std.specs.Prelude.{slice_get}
use Rattle.std.specs.declared.cmp.Ordering.TheVariants.{Greater, Less}
use Rattle.lalrpop_grammar_symbols.specs.Symbols.{Terminal, Text}
use Rattle.lalrpop_lr1_theory.specs.Productions.{Next, Production, Symbol, nonterminal, terminal}
use Rattle.lalrpop_lr1_theory.specs.Places.{top}
use Rattle.lalrpop_lr1_theory.specs.Trees.{leaf, none}
use Rattle.lalrpop_lr1_theory.specs.ValidItems.{CarriesOn, HaveSameItems, IsValidItem, begins, closes, shifts}
use Rattle.lalrpop_lr1_theory.proofs.ListLemmas.{contains_here, contains_later, contains_split}
use Rattle.lalrpop_lr1_theory.proofs.NameLemmas.{no_element}
use Rattle.lalrpop_lr1_theory.proofs.StepLemmas.{some_same}
use Rattle.lalrpop_lr1_theory.proofs.ValidItemLemmas.{carried_from_valid}
use Rattle.lalrpop_run.specs.AllConflicts.{AreConflictsInOrder, ConflictStands, IsPlacedIn, PlacedConflict, ReductionConflict}
use Rattle.lalrpop_run.specs.AllConflicts.{with_reduction, with_shift}
use Rattle.lalrpop_run.specs.ConflictOrders.{IsProductionBefore, IsSooner}
use Rattle.lalrpop_run.proofs.ConflictListLemmas.{one_answer, placed_never}
use Rattle.lalrpop_run.proofs.ConflictOrderLemmas.{never_itself, never_sooner, productions_total}

abbrev a : Text
a = 97 ∷ []

abbrev token : Terminal
token = Terminal.quoted (98 ∷ [])

abbrev of_action : ℕ → Production
of_action action = record { left = a; right = terminal token ∷ []; action = action; from = 0; to = 0 }

-- A grammar in which two productions have the same symbols. They have one conflict, with the smaller action in front; it isn't left out, and
-- doesn't stand twice.
abbrev one : Production
one = of_action 1

abbrev two : Production
two = of_action 2

abbrev Both : Production → Type 0
Both = Contains (one ∷ two ∷ [])

abbrev read : List Symbol
read = terminal token ∷ []

one_there : Both one
one_there = contains_here one (two ∷ [])

two_there : Both two
two_there = contains_later one two (two ∷ []) (contains_here two [])

finished : (p : Production) → Both p → p.left ≡ a → read ≡ p.right → IsValidItem Both a read p 1 None
finished p there left right = record {
  way = top;
  left = none;
  complete = leaf token none;
  missing = none;
  right = none;
  is_tree = (ap (λ A. nonterminal A ∷ []) left, (there, right, tt, tt));
  dot = refl;
  prefix = refl;
  next = refl;
}

-- both have the same symbols
both_alike : (p : Production) → Both p → (p.left ≡ a) × (p.right ≡ read)
both_alike p c = go (contains_split one p (two ∷ []) c)
  where
    alike : (q : Production) → q ≡ p → (q.left ≡ a) × (q.right ≡ read) → (p.left ≡ a) × (p.right ≡ read)
    alike q e h = (sym (ap (λ (v : Production). v.left) e) ∙ h.0, sym (ap (λ (v : Production). v.right) e) ∙ h.1)

    go : (one ≡ p) ⊎ Contains (two ∷ []) p → (p.left ≡ a) × (p.right ≡ read)
    go (inl e) = alike one e (refl, refl)
    go (inr d) = ⊎_elim (λ e. alike two e (refl, refl)) (λ n. absurd (no_element p n)) (contains_split two p [] d)

-- where an item is valid: with the dot in front on no symbols, with the dot behind the token on that
abbrev IsAt : List Symbol → ℕ → Type 0
IsAt g i = ((i ≡ 0) × (g ≡ [])) ⊎ ((i ≡ 1) × (g ≡ read))

nothing_behind : (X : Symbol) (b : List Symbol) → drop 1 read ≡ X ∷ b → ⊥
nothing_behind X b e = cc

where_carried : (g : List Symbol) (p : Production) (i : ℕ) (x : Next) → CarriesOn Both a g p i x → Both p × (x ≡ None) × IsAt g i
where_carried g p i x (begins q h e) = (h, refl, inl (refl, refl))
where_carried g p i x (shifts {n = f} {i = j} X b m k d e) =
    let r = where_carried f p j x k in (r.0, r.1, ⊎_elim (front r.0) (past r.0) r.2)
  where
    front : Both p → (j ≡ 0) × (f ≡ []) → IsAt m (suc j)
    front h r =
        let right = (both_alike p h).1 in
        let first : read ≡ X ∷ b = sym right ∙ (ap (λ n. drop n p.right) (sym r.0) ∙ d) in
        let symbol : terminal token ≡ X = cc in
        inr (ap suc r.0, e ∙ ap (λ l. l ++ X ∷ []) r.1 ∙ ap (λ z. z ∷ []) (sym symbol))

    past : Both p → (j ≡ 1) × (f ≡ read) → IsAt m (suc j)
    past h r =
        absurd (nothing_behind X b (sym (ap (drop 1) (both_alike p h).1) ∙ ap (λ n. drop n p.right) (sym r.0) ∙ d))
where_carried g p i x (closes {n = f} {p = q} {i = j} {x = y} b q' z k d u h) =
    let r = where_carried f q j y k in absurd (⊎_elim (front r.0) (past r.0) r.2)
  where
    front : Both q → (j ≡ 0) × (f ≡ []) → ⊥
    front o r =
        let first : read ≡ nonterminal q'.left ∷ b = sym (both_alike q o).1 ∙ (ap (λ n. drop n q.right) (sym r.0) ∙ d) in
        let w : ⊥ = cc in w

    past : Both q → (j ≡ 1) × (f ≡ read) → ⊥
    past o r =
        nothing_behind (nonterminal q'.left) b (sym (ap (drop 1) (both_alike q o).1) ∙ ap (λ n. drop n q.right) (sym r.0) ∙ d)

where_valid : (g : List Symbol) (p : Production) (i : ℕ) (x : Next) → IsValidItem Both a g p i x → Both p × (x ≡ None) × IsAt g i
where_valid g p i x v = where_carried g p i x (carried_from_valid Both a g p i x v)

-- a production is finished on the token alone
where_finished : (g : List Symbol) (p : Production) (x : Next) → IsValidItem Both a g p (length p.right) x → Both p × (g ≡ read)
where_finished g p x v =
    let r = where_valid g p (length p.right) x v in
    let long : length p.right ≡ 1 = ap length (both_alike p r.0).1 in
    (r.0, ⊎_elim (λ h. absurd (omega (arith, long, h.0))) (λ h. h.1) r.2)

abbrev the_conflict : PlacedConflict
the_conflict = record { symbols = read; conflict = with_reduction one two }

only_conflict : (i : ℕ) (c : PlacedConflict) → slice_get (the_conflict ∷ []) i ≡ Some c → the_conflict ≡ c
only_conflict zero c e = some_same the_conflict c e
only_conflict (suc i) c e = let w : ⊥ = cc in absurd w

only_pair : (p q : Production) → Both p → Both q → IsProductionBefore p q → (p ≡ one) × (q ≡ two)
only_pair p q c d less = go (which p c) (which q d)
  where
    which : (r : Production) → Both r → (r ≡ one) ⊎ (r ≡ two)
    which r h =
        ⊎_elim (λ e. inl (sym e)) (λ k. ⊎_elim (λ e. inr (sym e)) (λ n. absurd (no_element r n)) (contains_split two r [] k))
        (contains_split one r (two ∷ []) h)

    same_not : (r : Production) → p ≡ r → q ≡ r → ⊥
    same_not r e f = never_itself productions_total r
        (subst (λ v. IsProductionBefore v r) e (subst (IsProductionBefore p) f less))

    back_not : Greater ≡ Less → ⊥
    back_not e = cc

    go : (p ≡ one) ⊎ (p ≡ two) → (q ≡ one) ⊎ (q ≡ two) → (p ≡ one) × (q ≡ two)
    go (inl e) (inl f) = absurd (same_not one e f)
    go (inl e) (inr f) = (e, f)
    go (inr e) (inl f) =
        absurd (back_not (subst (λ v. IsProductionBefore v one) e (subst (IsProductionBefore p) f less)))
    go (inr e) (inr f) = absurd (same_not two e f)

-- the conflict stands alone
right : AreConflictsInOrder Both a (the_conflict ∷ [])
right = record {
  stand = λ i c e. (None, subst (λ (d : PlacedConflict). ConflictStands Both a d.symbols d.conflict None) (only_conflict i c e) there);
  soonest = λ i c e h same sooner.
      let one_is = only_conflict i c e in
      let on_read : IsValidItem Both a c.symbols one 1 None =
      subst (λ (d : PlacedConflict). IsValidItem Both a d.symbols one 1 None) one_is (finished one one_there refl refl) in
      let on = where_finished h one None ((same one 1 None).1 on_read) in
      never_sooner h (subst (IsSooner h) (sym (ap (λ (d : PlacedConflict). d.symbols) one_is) ∙ sym on.1) sooner);
  every = every;
  ordered = λ i j c d l e f. absurd (short i j c d l e f);
}
  where
    there : ConflictStands Both a read (with_reduction one two) None
    there = (finished one one_there refl refl, finished two two_there refl refl, refl)

    short : (i j : ℕ) (c d : PlacedConflict) → i < j → slice_get (the_conflict ∷ []) i ≡ Some c
        → slice_get (the_conflict ∷ []) j ≡ Some d → ⊥
    short i zero c d l e f = omega (arith, l)
    short i (suc j) c d l e f = cc

    placed : (g : List Symbol) (c : ReductionConflict) → g ≡ read → with_reduction one two ≡ c → IsPlacedIn Both a (the_conflict ∷ []) g c
    placed g c on same = record {
      number = 0;
      placed = the_conflict;
      at = refl;
      conflict_is = same;
      same = subst (HaveSameItems Both a g) on (λ p i x. (λ v. v, λ v. v));
    }

    not_both : (g : List Symbol) (i : ℕ) (q : Production) (t : Terminal) (rest : List Symbol) → Both q → g ≡ read → IsAt g i
        → drop i q.right ≡ terminal t ∷ rest → ⊥
    not_both g i q t rest h on (inl k) e = nothing (sym on ∙ k.1)
      where
        nothing : read ≡ [] → ⊥
        nothing f = cc
    not_both g i q t rest h on (inr k) e =
        nothing_behind (terminal t) rest (sym (ap (drop 1) (both_alike q h).1) ∙ ap (λ n. drop n q.right) (sym k.0) ∙ e)

    every : (g : List Symbol) (c : ReductionConflict) (x : Next) → ConflictStands Both a g c x → IsPlacedIn Both a (the_conflict ∷ []) g c
    every g (with_shift p t) x it =
        let on = where_finished g p x it.0 in
        let at = where_valid g it.1.production it.1.dot it.1.next it.1.valid in
        absurd (not_both g it.1.dot it.1.production t it.1.rest at.0 on.1 at.2 it.1.before)
    every g (with_reduction p q) x it =
        let one_on = where_finished g p x it.0 in
        let other_on = where_finished g q x it.1 in
        let pair = only_pair p q one_on.0 other_on.0 it.2 in
        placed g (with_reduction p q) one_on.1 (ap (λ v. with_reduction v two) (sym pair.0) ∙ ap (with_reduction p) (sym pair.1))

-- and no other list is right
only_right : (all : List PlacedConflict) → AreConflictsInOrder Both a all → all ≡ the_conflict ∷ []
only_right all h = one_answer Both a all (the_conflict ∷ []) h right

not_left_out : AreConflictsInOrder Both a [] → ⊥
not_left_out h =
    let it = h.every read (with_reduction one two) None (finished one one_there refl refl, finished two two_there refl refl, refl) in
    none_there it.number it.placed it.at
  where
    none_there : (k : ℕ) (c : PlacedConflict) → slice_get [] k ≡ Some c → ⊥
    none_there k c e = cc

not_exchanged : (g : List Symbol) → AreConflictsInOrder Both a (record { symbols = g; conflict = with_reduction two one } ∷ []) → ⊥
not_exchanged g h =
    let it = h.stand 0 (record { symbols = g; conflict = with_reduction two one }) refl in
    let less : IsProductionBefore two one = it.1.2 in
    never less
  where
    never : Greater ≡ Less → ⊥
    never e = cc

not_twice : (c : PlacedConflict) → AreConflictsInOrder Both a (c ∷ c ∷ []) → ⊥
not_twice c h = placed_never c (h.ordered 0 1 c c (omega arith) refl refl)
