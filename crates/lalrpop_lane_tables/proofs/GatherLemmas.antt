-- Columns that gather what the elements of a list say, one after the other: for loops over sets, rows and tables.
use Rattle.std.proofs.Common.{◌≡◌, ◌∙◌, ◌↔◌, ◌⊎◌, ℕ, List, [], ◌∷◌, length, refl, sym, subst, inl, inr, ⊎_elim, Contains}
use Rattle.std.proofs.Common.{Err}
use Rattle.lalrpop_lr1_theory.proofs.ListLemmas.{contains_here, contains_later, contains_split}
use Rattle.lalrpop_lr1_theory.proofs.NameLemmas.{no_element}
use Rattle.lalrpop_lane_theory.specs.Columns.{InColumn}
use Rattle.lalrpop_lane_tables.specs.ColumnAnswers.{AreColumns, AreGathered, ColumnsAnswer, ColumnsMeetComing, GatherAnswer}
use Rattle.lalrpop_lane_tables.specs.ColumnAnswers.{GathersApart, HasToken, SomeSays}
use Rattle.lalrpop_lane_tables.specs.declared.context_sets.ContextFault.{ContextFault}
use Rattle.lalrpop_lane_tables.specs.declared.context_sets.ContextFault.TheVariants.{Overlap, Memory}

module _ {E : Type 0} (Says : E → ℕ → ℕ → Type 0) where
  -- some of a list say so, one of them in front
  some_in_front : (e : E) (es : List E) (c x : ℕ) → SomeSays Says (e ∷ es) c x ↔ (Says e c x ⊎ SomeSays Says es c x)
  some_in_front e es c x = (
    λ s. ⊎_elim (λ z. inl (subst (λ d. Says d c x) (sym z) s.2)) (λ d. inr (s.0, d, s.2)) (contains_split e s.0 es s.1),
    λ s. ⊎_elim (λ q. (e, contains_here e es, q)) (λ r. (r.0, contains_later e r.0 es r.1, r.2)) s,
  )

  none_says : (c x : ℕ) → SomeSays Says [] c x → ⊥
  none_says c x s = no_element s.0 s.1

  module _ (all : List E) (old : List (List ℕ)) where
    -- all are left
    pub gather_begins : AreGathered Says all old old all
    gather_begins = record {
      count = refl;
      of_all = λ e h. h;
      holds = λ c x. (λ h. h, λ h. h);
      meets = λ h. h;
      apart = λ h. h;
    }

    -- one more came in
    pub gather_goes_on : (now next : List (List ℕ)) (left : List E) (e : E) (rest : List E) → AreGathered Says all old now left →
        left ≡ e ∷ rest → GathersApart (Says e) now next → AreGathered Says all old next rest
    gather_goes_on now next left e rest g is s = record {
      count = s.gathers.count ∙ g.count;
      of_all = λ f h. g.of_all f (subst (λ l. Contains l f) (sym is) (contains_later e f rest h));
      holds = λ c x. (
        λ h. (g.holds c x).0 (⊎_elim
            (λ n. ⊎_elim (λ i. inl i) (λ q. inr (of_left c x (inl q))) ((s.gathers.holds c x).0 n))
            (λ r. inr (of_left c x (inr r))) h),
        λ h. ⊎_elim
            (λ i. inl ((s.gathers.holds c x).1 (inl i)))
            (λ r. ⊎_elim (λ q. inl ((s.gathers.holds c x).1 (inr q))) (λ o. inr o) (in_left c x r))
            ((g.holds c x).1 h),
      );
      meets = λ h. further (g.meets h);
      apart = λ h. s.gathers.apart (g.apart h);
    }
      where
        of_left : (c x : ℕ) → Says e c x ⊎ SomeSays Says rest c x → SomeSays Says left c x
        of_left c x h = subst (λ l. SomeSays Says l c x) (sym is) ((some_in_front e rest c x).1 h)

        in_left : (c x : ℕ) → SomeSays Says left c x → Says e c x ⊎ SomeSays Says rest c x
        in_left c x h = (some_in_front e rest c x).0 (subst (λ l. SomeSays Says l c x) is h)

        -- the tokens of the one that came in meet nothing, so what meets is still to come
        further : ColumnsMeetComing now (SomeSays Says left) → ColumnsMeetComing next (SomeSays Says rest)
        further m = ⊎_elim
            (λ q. ⊎_elim
            (λ i. absurd (s.free (record { one = m.one; other = m.other; token = m.token; apart = m.apart; comes = q; there = inl i })))
            (λ r. ⊎_elim
            (λ p. absurd (s.free (record { one = m.one; other = m.other; token = m.token; apart = m.apart; comes = q; there = inr p })))
            (λ o. record {
              one = m.other;
              other = m.one;
              token = m.token;
              apart = λ z. m.apart (sym z);
              comes = o;
              there = inl ((s.gathers.holds m.one m.token).1 (inr q));
            })
            (in_left m.other m.token r)) m.there)
            (λ o. record {
              one = m.one;
              other = m.other;
              token = m.token;
              apart = m.apart;
              comes = o;
              there = ⊎_elim
                  (λ i. inl ((s.gathers.holds m.other m.token).1 (inl i)))
                  (λ r. ⊎_elim (λ q. inl ((s.gathers.holds m.other m.token).1 (inr q))) (λ p. inr p) (in_left m.other m.token r)) m.there;
            })
            (in_left m.one m.token m.comes)

    -- one more meets another column
    gather_meets : (now : List (List ℕ)) (left : List E) (e : E) (rest : List E) → AreGathered Says all old now left →
        left ≡ e ∷ rest → ColumnsMeetComing now (Says e) → ColumnsMeetComing old (SomeSays Says all)
    gather_meets now left e rest g is m = record {
      one = m.one;
      other = m.other;
      token = m.token;
      apart = m.apart;
      comes = of_e m.one m.comes;
      there = ⊎_elim
          (λ i. (g.holds m.other m.token).0 (inl i))
          (λ q. inr (of_e m.other q)) m.there;
    }
      where
        of_e : (c : ℕ) → Says e c m.token → SomeSays Says all c m.token
        of_e c q = (e, g.of_all e (subst (λ l. Contains l e) (sym is) (contains_here e rest)), q)

    -- none is left
    pub gather_ends : (now : List (List ℕ)) (left : List E) → left ≡ [] → AreGathered Says all old now left →
        GathersApart (SomeSays Says all) old now
    gather_ends now left is g = record {
      gathers = record {
        count = g.count;
        holds = λ c x. (
          λ n. (g.holds c x).0 (inl n),
          λ h. ⊎_elim (λ i. i) (λ r. absurd (none_says c x (subst (λ l. SomeSays Says l c x) is r))) ((g.holds c x).1 h),
        );
        apart = g.apart;
      };
      free = λ m. let k : ColumnsMeetComing now (SomeSays Says left) = g.meets m in
          none_says k.one k.token (subst (λ l. SomeSays Says l k.one k.token) is k.comes);
    }

    -- one more is refused
    pub gather_refused : (A B : Type 0) (now next end : List (List ℕ)) (left : List E) (e : E) (rest : List E) (f : ContextFault) →
        AreGathered Says all old now left → left ≡ e ∷ rest → GatherAnswer {A = A} (Says e) now next (Err f) →
        GatherAnswer {A = B} (SomeSays Says all) old end (Err f)
    gather_refused A B now next end left e rest (Overlap o) g is m = gather_meets now left e rest g is m
    gather_refused A B now next end left e rest Memory g is m = tt

-- the same is said in other words
pub comes_alike : (P Q : ℕ → ℕ → Type 0) (old : List (List ℕ)) → ((c x : ℕ) → P c x ↔ Q c x) → ColumnsMeetComing old P →
    ColumnsMeetComing old Q
comes_alike P Q old alike m = record {
  one = m.one;
  other = m.other;
  token = m.token;
  apart = m.apart;
  comes = (alike m.one m.token).0 m.comes;
  there = ⊎_elim (λ i. inl i) (λ p. inr ((alike m.other m.token).0 p)) m.there;
}

pub gathers_alike : (P Q : ℕ → ℕ → Type 0) (old new : List (List ℕ)) → ((c x : ℕ) → P c x ↔ Q c x) → GathersApart P old new →
    GathersApart Q old new
gathers_alike P Q old new alike g = record {
  gathers = record {
    count = g.gathers.count;
    holds = λ c x. (
      λ n. ⊎_elim (λ i. inl i) (λ p. inr ((alike c x).0 p)) ((g.gathers.holds c x).0 n),
      λ h. (g.gathers.holds c x).1 (⊎_elim (λ i. inl i) (λ q. inr ((alike c x).1 q)) h),
    );
    apart = g.gathers.apart;
  };
  free = λ m. g.free (comes_alike Q P old (λ c x. ((alike c x).1, (alike c x).0)) m);
}

pub refused_alike : (A B : Type 0) (P Q : ℕ → ℕ → Type 0) (old new end : List (List ℕ)) (f : ContextFault) →
    ((c x : ℕ) → P c x ↔ Q c x) → GatherAnswer {A = A} P old new (Err f) → GatherAnswer {A = B} Q old end (Err f)
refused_alike A B P Q old new end (Overlap o) alike m = comes_alike P Q old alike m
refused_alike A B P Q old new end Memory alike m = tt

-- what was gathered into columns without tokens
module _ (Holds : ℕ → ℕ → Type 0) (count : ℕ) (old : List (List ℕ)) (empty : (c x : ℕ) → InColumn HasToken old c x → ⊥) where
  pub columns_of_empty : (columns : List (List ℕ)) → length old ≡ count → GathersApart Holds old columns →
      AreColumns count Holds columns
  columns_of_empty columns long g = record {
    long = g.gathers.count ∙ long;
    holds = holds;
    apart = λ c d x i j. g.gathers.apart (λ a b y k l. absurd (empty a y k)) c d x ((holds c x).1 i) ((holds d x).1 j);
  }
    where
      holds : (c x : ℕ) → InColumn HasToken columns c x ↔ Holds c x
      holds c x = (
        λ n. ⊎_elim (λ i. absurd (empty c x i)) (λ p. p) ((g.gathers.holds c x).0 n),
        λ p. (g.gathers.holds c x).1 (inr p),
      )

  pub columns_refused : (A : Type 0) (new : List (List ℕ)) (f : ContextFault) → GatherAnswer {A = A} Holds old new (Err f) →
      ColumnsAnswer count Holds (Err f)
  columns_refused A new (Overlap o) m = record {
    one = m.one;
    other = m.other;
    token = m.token;
    apart = m.apart;
    in_one = m.comes;
    in_other = ⊎_elim (λ i. absurd (empty m.other m.token i)) (λ p. p) m.there;
  }
  columns_refused A new Memory m = tt
