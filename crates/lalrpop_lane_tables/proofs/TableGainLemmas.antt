-- What a lane table gains, by nothing, by one thing after the other, and in other words.
use Rattle.std.proofs.Common.{◌∙◌, ◌↔◌, ◌⊎◌, ℕ, refl, inl, inr, ⊎_elim}
use Rattle.lalrpop_lane_tables.specs.TableGains.{TableGains}
use Rattle.lalrpop_lane_tables.specs.TableViews.{TableView}

pub table_gains_none : (Adds : ℕ → ℕ → Type 0) (Enters : ℕ → Type 0) (Notes : ℕ → ℕ → Type 0) (c : ℕ) (table : TableView) →
    ((m x : ℕ) → Adds m x → ⊥) → ((m : ℕ) → Enters m → ⊥) → ((k m : ℕ) → Notes k m → ⊥) → TableGains Adds Enters Notes c table table
table_gains_none Adds Enters Notes c table no_adds no_enters no_notes = record {
  conflicts = refl;
  gains = record {
    holds = λ m d x. (λ h. inl h, λ h. ⊎_elim (λ o. o) (λ w. absurd (no_adds m x w.1)) h);
    enters = λ m d. (λ h. inl h, λ h. ⊎_elim (λ o. o) (λ w. absurd (no_enters m w.1)) h);
    notes = λ k m. (λ h. inl h, λ h. ⊎_elim (λ o. o) (λ w. absurd (no_notes k m w)) h);
  };
}

module _ (A B C : ℕ → ℕ → Type 0) (E F G : ℕ → Type 0) (M N O : ℕ → ℕ → Type 0) (c : ℕ) (old mid new : TableView) where
  pub table_gains_both : ((m x : ℕ) → C m x ↔ (A m x ⊎ B m x)) → ((m : ℕ) → G m ↔ (E m ⊎ F m)) →
      ((k m : ℕ) → O k m ↔ (M k m ⊎ N k m)) → TableGains A E M c old mid → TableGains B F N c mid new → TableGains C G O c old new
  table_gains_both adds enters notes f g = record {
    conflicts = g.conflicts ∙ f.conflicts;
    gains = record {
      holds = λ m d x. (
        λ h. ⊎_elim
            (λ i. ⊎_elim (λ o. inl o) (λ w. inr (w.0, (adds m x).1 (inl w.1))) ((f.gains.holds m d x).0 i))
            (λ w. inr (w.0, (adds m x).1 (inr w.1))) ((g.gains.holds m d x).0 h),
        λ h. ⊎_elim
            (λ o. (g.gains.holds m d x).1 (inl ((f.gains.holds m d x).1 (inl o))))
            (λ w. ⊎_elim
            (λ a. (g.gains.holds m d x).1 (inl ((f.gains.holds m d x).1 (inr (w.0, a)))))
            (λ b. (g.gains.holds m d x).1 (inr (w.0, b))) ((adds m x).0 w.1)) h,
      );
      enters = λ m d. (
        λ h. ⊎_elim
            (λ i. ⊎_elim (λ o. inl o) (λ w. inr (w.0, (enters m).1 (inl w.1))) ((f.gains.enters m d).0 i))
            (λ w. inr (w.0, (enters m).1 (inr w.1))) ((g.gains.enters m d).0 h),
        λ h. ⊎_elim
            (λ o. (g.gains.enters m d).1 (inl ((f.gains.enters m d).1 (inl o))))
            (λ w. ⊎_elim
            (λ a. (g.gains.enters m d).1 (inl ((f.gains.enters m d).1 (inr (w.0, a)))))
            (λ b. (g.gains.enters m d).1 (inr (w.0, b))) ((enters m).0 w.1)) h,
      );
      notes = λ k m. (
        λ h. ⊎_elim
            (λ i. ⊎_elim (λ o. inl o) (λ w. inr ((notes k m).1 (inl w))) ((f.gains.notes k m).0 i))
            (λ w. inr ((notes k m).1 (inr w))) ((g.gains.notes k m).0 h),
        λ h. ⊎_elim
            (λ o. (g.gains.notes k m).1 (inl ((f.gains.notes k m).1 (inl o))))
            (λ w. ⊎_elim
            (λ a. (g.gains.notes k m).1 (inl ((f.gains.notes k m).1 (inr a))))
            (λ b. (g.gains.notes k m).1 (inr b)) ((notes k m).0 w)) h,
      );
    };
  }

pub table_gains_alike : (A B : ℕ → ℕ → Type 0) (E F : ℕ → Type 0) (M N : ℕ → ℕ → Type 0) (c : ℕ) (old new : TableView) →
    ((m x : ℕ) → A m x ↔ B m x) → ((m : ℕ) → E m ↔ F m) → ((k m : ℕ) → M k m ↔ N k m) → TableGains A E M c old new →
    TableGains B F N c old new
table_gains_alike A B E F M N c old new adds enters notes g = record {
  conflicts = g.conflicts;
  gains = record {
    holds = λ m d x. (
      λ h. ⊎_elim (λ o. inl o) (λ w. inr (w.0, (adds m x).0 w.1)) ((g.gains.holds m d x).0 h),
      λ h. (g.gains.holds m d x).1 (⊎_elim (λ o. inl o) (λ w. inr (w.0, (adds m x).1 w.1)) h),
    );
    enters = λ m d. (
      λ h. ⊎_elim (λ o. inl o) (λ w. inr (w.0, (enters m).0 w.1)) ((g.gains.enters m d).0 h),
      λ h. (g.gains.enters m d).1 (⊎_elim (λ o. inl o) (λ w. inr (w.0, (enters m).1 w.1)) h),
    );
    notes = λ k m. (
      λ h. ⊎_elim (λ o. inl o) (λ w. inr ((notes k m).0 w)) ((g.gains.notes k m).0 h),
      λ h. (g.gains.notes k m).1 (⊎_elim (λ o. inl o) (λ w. inr ((notes k m).1 w)) h),
    );
  };
}
