-- Names that a closure brings, that a start reaches, and that have trees: for the laws on checked states.
use Rattle.std.proofs.Common.{◌≡◌, ◌↔◌, ◌⊎◌, ℕ, List, [], ◌∷◌, drop, refl, sym}
use Rattle.std.proofs.Common.{ap, ◌∙◌, subst, inl, inr}
use Rattle.std.proofs.Common.{arith, Contains}
use Rattle.lalrpop_grammar_symbols.specs.Symbols.{Text}
use Rattle.lalrpop_lr1_theory.specs.Productions.{Production, Symbol, nonterminal, terminal}
use Rattle.lalrpop_lr1_theory.specs.Trees.{AreOver, Forest, IsTreeOf, leaf, node, none, roots}
use Rattle.lalrpop_lr1_theory.specs.ValidItems.{NoneBarren, Reaches, itself, onward}
use Rattle.lalrpop_lr1_theory.specs.Automata.{Closure, closed, in_kernel}
use Rattle.lalrpop_lr1_theory.proofs.ListLemmas.{contains_here, contains_later, contains_split}
use Rattle.lalrpop_lr1_theory.specs.NameClosures.{IsNameBrought, IsNameFrom, IsNameReached}
use Rattle.lalrpop_lr1_theory.specs.NameClosures.{IsProductive, by_production, seeded, stepped}

pub no_element : {X : Type 0} (y : X) → Contains [] y → ⊥
no_element y c = omega (arith, c.1)

-- what holds of a seed and is kept by the steps holds of the names
pub names_hold : (Seed : Text → Type 0) (Step : Text → Text → Type 0) (P : Text → Type 0) → ((A : Text) → Seed A → P A) →
    ((A B : Text) → P A → Step A B → P B) → {A : Text} → IsNameFrom Seed Step A → P A
names_hold Seed Step P begin further (seeded A h) = begin A h
names_hold Seed Step P begin further (stepped {A = A} B h k) = further A B (names_hold Seed Step P begin further h) k

module _ (G : Production → Type 0) where
  -- an item of a closure is in its kernel, or a production of a name that is brought, with the dot in front
  pub item_brought : (K : Production → ℕ → Type 0) {p : Production} {i : ℕ} → Closure G K p i →
      K p i ⊎ ((i ≡ 0) × G p × IsNameBrought G K p.left)
  item_brought K (in_kernel p i k) = inl k
  item_brought K (closed {p = p} {i = i} b q d e g) = inr (refl, g, go (item_brought K d))
    where
      go : K p i ⊎ ((i ≡ 0) × G p × IsNameBrought G K p.left) → IsNameBrought G K q.left
      go (inl k) = seeded q.left (record { production = p; dot = i; rest = b; item = k; before = e })
      go (inr h) = stepped q.left h.2 (record {
        production = p;
        rest = b;
        of_grammar = h.1;
        left = refl;
        right = subst (λ j. drop j p.right ≡ nonterminal q.left ∷ b) h.0 e;
      })

  -- and the other way round: the productions of a name that is brought are in the closure
  pub brought_item : (K : Production → ℕ → Type 0) {A : Text} → IsNameBrought G K A → (q : Production) →
      q.left ≡ A → G q →
      Closure G K q 0
  brought_item K (seeded A h) q e g =
      closed h.rest q (in_kernel h.production h.dot h.item) (h.before ∙ ap (λ B. nonterminal B ∷ h.rest) (sym e)) g
  brought_item K (stepped B h k) q e g =
      closed k.rest q (brought_item K h k.production k.left k.of_grammar) (k.right ∙ ap (λ C. nonterminal C ∷ k.rest) (sym e)) g

  -- a name is reached by the theory's word and by this one
  pub reached_name : (s : Text) {A : Text} → Reaches G s A → IsNameReached G s A
  reached_name s itself = seeded s refl
  reached_name s (onward p B h g c) =
      stepped B (reached_name s h) (record { production = p; of_grammar = g; left = refl; mentioned = c })

  pub name_reached : (s : Text) {A : Text} → IsNameReached G s A → Reaches G s A
  name_reached s (seeded A e) = subst (Reaches G s) (sym e) itself
  name_reached s (stepped B h k) =
      onward k.production B (subst (Reaches G s) (sym k.left) (name_reached s h)) k.of_grammar k.mentioned

  abbrev TreeOf : Text → Type 0
  TreeOf A = (ts : Forest) × IsTreeOf G A ts

  -- trees for the names of a right side are trees for it
  trees_of : (xs : List Symbol) → ((B : Text) → Contains xs (nonterminal B) → TreeOf B) →
      (ts : Forest) × AreOver G ts × (roots ts ≡ xs)
  trees_of [] f = (none, tt, refl)
  trees_of (terminal t ∷ xs) f =
      let k = trees_of xs (λ B c. f B (contains_later (terminal t) (nonterminal B) xs c)) in
      (leaf t k.0, k.1, ap (λ a. terminal t ∷ a) k.2)
  trees_of (nonterminal A ∷ xs) f =
      let k = trees_of xs (λ B c. f B (contains_later (nonterminal A) (nonterminal B) xs c)) in
      go k (f A (contains_here (nonterminal A) xs))
    where
      go : (ts : Forest) × AreOver G ts × (roots ts ≡ xs) → TreeOf A →
          (ts : Forest) × AreOver G ts × (roots ts ≡ nonterminal A ∷ xs)
      go k (none, h) = let z : ⊥ = cc in absurd z
      go k (leaf t us, h) = let z : ⊥ = cc in absurd z
      go k (node p cs us, h) =
          let same : p.left ≡ A = cc in
          (node p cs k.0, (h.1.0, h.1.1, h.1.2, k.1), ap (λ B. nonterminal B ∷ roots k.0) same ∙ ap (λ a. nonterminal A ∷ a) k.2)

  -- a productive name has a tree
  pub productive_tree : {A : Text} → IsProductive G A → TreeOf A
  productive_tree (by_production p g f) =
      let k = trees_of p.right (λ B c. productive_tree (f B c)) in
      (node p k.0 none, (refl, (g, k.2, k.1, tt)))

  -- and a name with a tree is productive
  pub roots_productive : (ts : Forest) → AreOver G ts → (B : Text) → Contains (roots ts) (nonterminal B) → IsProductive G B
  roots_productive none o B c = absurd (no_element (nonterminal B) c)
  roots_productive (leaf t ts) o B c =
      go (contains_split (terminal t) (nonterminal B) (roots ts) c) (λ d. roots_productive ts o B d)
    where
      go : (terminal t ≡ nonterminal B) ⊎ Contains (roots ts) (nonterminal B) →
          (Contains (roots ts) (nonterminal B) → IsProductive G B) → IsProductive G B
      go (inl e) rec = let z : ⊥ = cc in absurd z
      go (inr d) rec = rec d
  roots_productive (node p cs ts) o B c =
      go (contains_split (nonterminal p.left) (nonterminal B) (roots ts) c)
      (by_production p o.0 (λ C d. roots_productive cs o.2 C (subst (λ xs. Contains xs (nonterminal C)) (sym o.1) d)))
      (λ d. roots_productive ts o.3 B d)
    where
      go : (nonterminal p.left ≡ nonterminal B) ⊎ Contains (roots ts) (nonterminal B) → IsProductive G p.left →
          (Contains (roots ts) (nonterminal B) → IsProductive G B) → IsProductive G B
      go (inl e) own rec = let same : p.left ≡ B = cc in subst (IsProductive G) same own
      go (inr d) own rec = rec d

  pub tree_productive : (A : Text) (ts : Forest) → IsTreeOf G A ts → IsProductive G A
  tree_productive A ts h =
      roots_productive ts h.1 A (subst (λ xs. Contains xs (nonterminal A)) (sym h.0) (contains_here (nonterminal A) []))

  pub none_barren_productive : (s : Text) → NoneBarren G s ↔ ((A : Text) → IsNameReached G s A → IsProductive G A)
  none_barren_productive s = (
    λ nb A h. let k = nb A (name_reached s h) in tree_productive A k.0 k.1,
    λ f A h. productive_tree (f A (reached_name s h)),
  )
