-- Trees over the productions have moves by derived rules: all of them, those without leaves, and those that begin with the terminal.
use Rattle.std.proofs.Common.{◌≡◌, ◌∙◌, ℕ, suc, ◌<◌, true, List, [], ◌∷◌, ◌++◌, length, map, take}
use Rattle.std.proofs.Common.{refl, sym, ap, subst, inl, inr, ⊎_elim, arith, Contains, Option, Some, slice_get}
use Rattle.std.proofs.lemmas.Option.{slice_get_within}
use Rattle.lalrpop_grammar_symbols.specs.Symbols.{Terminal}
use Rattle.lalrpop_lr1_theory.specs.Productions.{Production, Symbol, first, nonterminal, terminal}
use Rattle.lalrpop_lr1_theory.specs.Trees.{AreOver, Forest, leaf, node, none, roots, yield}
use Rattle.lalrpop_lr1_theory.proofs.ListLemmas.{contains_get, contains_split}
use Rattle.lalrpop_lr1_theory.proofs.StepLemmas.{some_same}
use Rattle.lalrpop_lr1_first.specs.Numbers.{SpellsSymbols}
use Rattle.lalrpop_lr1_least_trees.specs.declared.least_counts.rule.NumberMove.{NumberMove}
use Rattle.lalrpop_lr1_least_trees.specs.declared.least_counts.rule.NumberMove.TheVariants as numbered
use Rattle.lalrpop_lr1_least_trees.specs.NumberedTrees.{Builds, NumberRule, nothing, reduces, rule_views, shifts}
use Rattle.lalrpop_lr1_least_trees.proofs.SpellLemmas.{StandFor}
use Rattle.lalrpop_lr1_least_trees.specs.declared.begin_trees.derived.Derived.{Derived}
use Rattle.lalrpop_lr1_least_trees.specs.BeginForests.{IsWanted}
use Rattle.lalrpop_lr1_least_trees.specs.DerivedRules.{AreDerived, AreNames, HasDerived, MayBegin, begin_side, begin_symbol, empty_symbol}
use Rattle.lalrpop_lr1_least_trees.specs.DerivedRules.{all_names, whole_symbol}
use Rattle.lalrpop_lr1_least_trees.proofs.KindLemmas.{whole_name, whole_past}
use Rattle.lalrpop_lr1_first.proofs.TableLemmas.{get_some}

empty_parts : {X : Type 0} (xs ys : List X) → xs ++ ys ≡ [] → (xs ≡ []) × (ys ≡ [])
empty_parts [] ys e = (refl, e)
empty_parts (x ∷ xs) ys e = let w : ⊥ = cc in absurd w

none_in : {X : Type 0} (x : X) → Contains [] x → ⊥
none_in x c = omega (arith, c.1)

names_front : (names s : ℕ) (ss : List ℕ) → s < names → AreNames names ss → AreNames names (s ∷ ss)
names_front names s ss h are x c = ⊎_elim (λ e. subst (λ y. y < names) e h) (are x) (contains_split s x ss c)

module _ (at : ℕ → Option Symbol) (names : ℕ) (rules : List NumberRule) (productions : List Production)
    (stand : StandFor at names rules productions) (wanted : ℕ) (t : Terminal) (is_wanted : IsWanted at t wanted) (derived : Derived)
    (are : AreDerived names wanted rules (length rules) derived) where
  abbrev G : Production → Type 0
  G = Contains productions

  abbrev B : List ℕ → List NumberMove → Type 0
  B = Builds (rule_views derived.rules.items) (all_names names) true

  -- the rule of a production
  record HasRule (p : Production) : Type 0 where
    number : ℕ
    rule : NumberRule
    at_rule : slice_get rules number ≡ Some rule
    left : at rule.left ≡ Some (nonterminal p.left)
    right : SpellsSymbols at rule.right p.right

  rule_of : (p : Production) → G p → HasRule p
  rule_of p g =
      let k = contains_get productions p g in
      let r = get_some rules k.0 (omega (arith, slice_get_within productions k.0 p k.1, stand.count)) in
      record {
        number = k.0;
        rule = r.0;
        at_rule = r.1;
        left = stand.left k.0 r.0 p r.1 k.1;
        right = stand.right k.0 r.0 p r.1 k.1;
      }

  -- a reduction by a rule that is derived
  reduce_by : (d : NumberRule) (r place : ℕ) → HasDerived derived r place d → (ms : List NumberMove) → B d.right ms →
      (ss : List ℕ)
      (ns : List NumberMove) → B ss ns → (all : List NumberMove) × B (d.left ∷ ss) all
  reduce_by d r place h ms inner ss ns b = (ms ++ numbered.Reduce h.number ∷ ns, reduces h.number d h.stands.at_rule inner b)

  pub whole_built : (ts : Forest) → AreOver G ts → (ss : List ℕ) → SpellsSymbols at ss (roots ts) →
      (ms : List NumberMove) × B (map (whole_symbol names) ss) ms
  whole_built none over [] sp = ([], nothing)
  whole_built none over (s ∷ ss) sp = absurd sp
  whole_built (leaf u ts) over [] sp = absurd sp
  whole_built (leaf u ts) over (s ∷ ss) sp =
      let past = stand.terminal_past s u sp.0 in
      let is = whole_past names s past in
      let r = whole_built ts over ss sp.1 in (
        numbered.Shift (begin_symbol names s) ∷ r.0,
        subst (λ x. B (x ∷ map (whole_symbol names) ss) (numbered.Shift (begin_symbol names s) ∷ r.0)) (sym is)
            (shifts (begin_symbol names s) refl (omega (arith, past)) r.1),
      )
  whole_built (node p cs ts) over [] sp = absurd sp
  whole_built (node p cs ts) over (s ∷ ss) sp =
      let h = rule_of p over.0 in
      let same : h.rule.left ≡ s = stand.name_once h.rule.left s p.left h.left sp.0 in
      let below = stand.name_below s p.left sp.0 in
      let c = whole_built cs over.2 h.rule.right (subst (SpellsSymbols at h.rule.right) (sym over.1) h.right) in
      let r = whole_built ts over.3 ss sp.1 in
      let d = are.all h.number 0 h.rule (record { left = h.rule.left; right = map (whole_symbol names) h.rule.right })
      (slice_get_within rules h.number h.rule h.at_rule) h.at_rule (inl (refl, refl)) in
      let all = reduce_by (record { left = h.rule.left; right = map (whole_symbol names) h.rule.right }) h.number 0 d c.0 c.1
      (map (whole_symbol names) ss) r.0 r.1 in
      (all.0, subst (λ x. B (x ∷ map (whole_symbol names) ss) all.0) (same ∙ sym (whole_name names s below)) all.1)

  pub record IsEmptyBuilt (ss : List ℕ) : Type 0 where
    pub moves : List NumberMove
    pub builds : B (map (empty_symbol names) ss) moves
    pub are_names : AreNames names ss

  pub empty_built : (ts : Forest) → AreOver G ts → yield ts ≡ [] → (ss : List ℕ) → SpellsSymbols at ss (roots ts) →
      IsEmptyBuilt ss
  empty_built none over e [] sp = record { moves = []; builds = nothing; are_names = λ s c. absurd (none_in s c) }
  empty_built none over e (s ∷ ss) sp = absurd sp
  empty_built (leaf u ts) over e ss sp = let w : ⊥ = cc in absurd w
  empty_built (node p cs ts) over e [] sp = absurd sp
  empty_built (node p cs ts) over e (s ∷ ss) sp =
      let parts = empty_parts (yield cs) (yield ts) e in
      let h = rule_of p over.0 in
      let same : h.rule.left ≡ s = stand.name_once h.rule.left s p.left h.left sp.0 in
      let below = stand.name_below s p.left sp.0 in
      let c = empty_built cs over.2 parts.0 h.rule.right (subst (SpellsSymbols at h.rule.right) (sym over.1) h.right) in
      let r = empty_built ts over.3 parts.1 ss sp.1 in
      let d = are.all h.number 0 h.rule
      (record { left = empty_symbol names h.rule.left; right = map (empty_symbol names) h.rule.right })
      (slice_get_within rules h.number h.rule h.at_rule) h.at_rule (inr (inl (c.are_names, refl, refl))) in
      let all = reduce_by (record { left = empty_symbol names h.rule.left; right = map (empty_symbol names) h.rule.right }) h.number 0 d
      c.moves c.builds (map (empty_symbol names) ss) r.moves r.builds in
      record {
        moves = all.0;
        builds = subst (λ x. B (empty_symbol names x ∷ map (empty_symbol names) ss) all.0) same all.1;
        are_names = names_front names s ss below r.are_names;
      }

  pub record IsBeginBuilt (ss : List ℕ) : Type 0 where
    pub place : ℕ
    pub may : MayBegin names wanted ss place
    pub moves : List NumberMove
    pub builds : B (begin_side names ss place) moves

  pub begin_built : (ts : Forest) → AreOver G ts → first (yield ts) ≡ Some t → (ss : List ℕ) → SpellsSymbols at ss (roots ts)
      → IsBeginBuilt ss
  begin_built none over e ss sp = let w : ⊥ = cc in absurd w
  begin_built (leaf u ts) over e [] sp = absurd sp
  begin_built (leaf u ts) over e (s ∷ ss) sp =
      let same : u ≡ t = some_same u t e in
      let past = stand.terminal_past s u sp.0 in
      let r = whole_built ts over ss sp.1 in
      record {
        place = 0;
        may = record {
          within = omega arith;
          front = λ x c. absurd (none_in x c);
          here = inr (is_wanted.only s (sp.0 ∙ ap (λ v. Some (terminal v)) same));
        };
        moves = numbered.Shift (begin_symbol names s) ∷ r.0;
        builds = shifts (begin_symbol names s) refl (omega (arith, past)) r.1;
      }
  begin_built (node p cs ts) over e [] sp = absurd sp
  begin_built (node p cs ts) over e (s ∷ ss) sp =
      go (yield cs) refl (begin_built cs over.2) (λ f. begin_built ts over.3 f ss sp.1)
    where
      h : HasRule p
      h = rule_of p over.0

      same : h.rule.left ≡ s
      same = stand.name_once h.rule.left s p.left h.left sp.0

      below : s < names
      below = stand.name_below s p.left sp.0

      right : SpellsSymbols at h.rule.right (roots cs)
      right = subst (SpellsSymbols at h.rule.right) (sym over.1) h.right

      -- it begins in the first of the trees
      inside : IsBeginBuilt h.rule.right → IsBeginBuilt (s ∷ ss)
      inside c =
          let r = whole_built ts over.3 ss sp.1 in
          let d = are.all h.number c.place h.rule
          (record { left = begin_symbol names h.rule.left; right = begin_side names h.rule.right c.place })
          (slice_get_within rules h.number h.rule h.at_rule) h.at_rule (inr (inr (c.may, (refl, refl)))) in
          let all = reduce_by (record { left = begin_symbol names h.rule.left; right = begin_side names h.rule.right c.place }) h.number
          c.place d c.moves c.builds (map (whole_symbol names) ss) r.0 r.1 in
          record {
            place = 0;
            may = record { within = omega arith; front = λ x k. absurd (none_in x k); here = inl below };
            moves = all.0;
            builds = subst (λ x. B (begin_symbol names x ∷ map (whole_symbol names) ss) all.0) same all.1;
          }

      -- it begins behind it
      behind : yield cs ≡ [] → IsBeginBuilt ss → IsBeginBuilt (s ∷ ss)
      behind f r =
          let c = empty_built cs over.2 f h.rule.right right in
          let d = are.all h.number 0 h.rule
          (record { left = empty_symbol names h.rule.left; right = map (empty_symbol names) h.rule.right })
          (slice_get_within rules h.number h.rule h.at_rule) h.at_rule (inr (inl (c.are_names, refl, refl))) in
          let all = reduce_by (record { left = empty_symbol names h.rule.left; right = map (empty_symbol names) h.rule.right }) h.number 0 d
          c.moves c.builds (begin_side names ss r.place) r.moves r.builds in
          record {
            place = suc r.place;
            may = record {
              within = omega (arith, r.may.within);
              front = names_front names s (take r.place ss) below r.may.front;
              here = r.may.here;
            };
            moves = all.0;
            builds = subst (λ x. B (empty_symbol names x ∷ begin_side names ss r.place) all.0) same all.1;
          }

      go : (ys : List Terminal) → yield cs ≡ ys →
          (first (yield cs) ≡ Some t → (rs : List ℕ) → SpellsSymbols at rs (roots cs) → IsBeginBuilt rs) →
          (first (yield ts) ≡ Some t → IsBeginBuilt ss) → IsBeginBuilt (s ∷ ss)
      go [] f in_first further = behind f (further (ap (λ l. first (l ++ yield ts)) (sym f) ∙ e))
      go (y ∷ ys) f in_first further =
          inside (in_first (ap first f ∙ ap (λ l. first (l ++ yield ts)) (sym f) ∙ e) h.rule.right right)
