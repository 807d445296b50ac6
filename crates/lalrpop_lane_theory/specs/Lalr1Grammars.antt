-- Canonical states that symbols lead to, LALR(1) grammars, whose canonical states don't conflict put together by cores, and least counts.
use Rattle.std.specs.Prelude.{ℕ, suc, ◌≤◌, List, [], ◌∷◌, ◌++◌, length, drop, Option, None, Some, ◌≡◌, ◌↔◌, Contains}
use Rattle.lalrpop_grammar_symbols.specs.Symbols.{Terminal, Text}
use Rattle.lalrpop_lr1_theory.specs.Productions.{Next, Production, Symbol, nonterminal, terminal}
use Rattle.lalrpop_lr1_theory.specs.FirstSets.{First0}
use Rattle.lalrpop_lr1_theory.specs.States.{State}
use Rattle.lalrpop_lr1_theory.specs.CheckedStates.{AreCheckedStates}
use Rattle.lalrpop_lr1_theory.specs.ValidCores.{CountsCoreSets}

-- What is marked in the canonical state to which symbols lead: that an item is there, which is None, or what may follow it. At first
-- the start's items stand there, before the end. A symbol moves dots. And the productions of a nonterminal after a dot come with their
-- dots in front, before each terminal that may begin the rest, and, where the rest derives nothing, before what may follow the item.
pub data IsCanonicalItem (G : Production → Type 0) (s : Text) : List Symbol → Production → ℕ → Option Next → Type 0 where
  begins_there : (p : Production) → G p → p.left ≡ s → IsCanonicalItem G s [] p 0 None
  ends_after : (p : Production) → G p → p.left ≡ s → IsCanonicalItem G s [] p 0 (Some None)
  moves_over : {g : List Symbol} {p : Production} {i : ℕ} {m : Option Next} (X : Symbol) (b : List Symbol) →
      IsCanonicalItem G s g p i m → drop i p.right ≡ X ∷ b → IsCanonicalItem G s (g ++ X ∷ []) p (suc i) m
  brings_there : {g : List Symbol} {p : Production} {i : ℕ} (b : List Symbol) (q : Production) → IsCanonicalItem G s g p i None →
      drop i p.right ≡ nonterminal q.left ∷ b → G q → IsCanonicalItem G s g q 0 None
  starts_after : {g : List Symbol} {p : Production} {i : ℕ} (b : List Symbol) (q : Production) (t : Terminal) →
      IsCanonicalItem G s g p i None → drop i p.right ≡ nonterminal q.left ∷ b → G q → First0 G b (Some t) →
      IsCanonicalItem G s g q 0 (Some (Some t))
  passes_after : {g : List Symbol} {p : Production} {i : ℕ} (b : List Symbol) (q : Production) (x : Next) →
      IsCanonicalItem G s g p i (Some x) → drop i p.right ≡ nonterminal q.left ∷ b → G q → First0 G b None →
      IsCanonicalItem G s g q 0 (Some x)

-- the canonical states to which the two lists of symbols lead have one core: the same items, whatever may follow them
abbrev pub HaveOneCoreOn : (Production → Type 0) → Text → List Symbol → List Symbol → Type 0
HaveOneCoreOn G s g h = (p : Production) (i : ℕ) → IsCanonicalItem G s g p i None ↔ IsCanonicalItem G s h p i None

-- The grammar is LALR(1): where the canonical states are put together by their cores, no state has two finished items that one terminal
-- may follow, or the end, and none has a finished item that a terminal may follow which stands after a dot there. That the whole is read
-- conflicts with nothing: where the start stands on a right side, another before it says that.
pub record IsLalr1 (G : Production → Type 0) (s : Text) : Type 0 where
  pub reductions_apart : (g h : List Symbol) (p q : Production) (x : Next) → HaveOneCoreOn G s g h →
      IsCanonicalItem G s g p (length p.right) (Some x) → IsCanonicalItem G s h q (length q.right) (Some x) → p ≡ q
  pub shifts_apart : (g h : List Symbol) (p q : Production) (i : ℕ) (t : Terminal) (b : List Symbol) → HaveOneCoreOn G s g h →
      IsCanonicalItem G s g p (length p.right) (Some (Some t)) → IsCanonicalItem G s h q i None → drop i q.right ≡ terminal t ∷ b → ⊥

-- There are so many nonempty sets of valid items, whatever may follow them, and no states that may be parsed with are fewer.
pub record IsLeastStateCount (grammar : List Production) (s : Text) (count : ℕ) : Type 0 where
  pub for_each_core : CountsCoreSets (Contains grammar) s count
  pub no_fewer : (states : List State) → AreCheckedStates grammar s states → count ≤ length states
