-- A node is that of one state and one nonterminal, and they have one node: for the search for completions.
use Rattle.std.proofs.Common.{◌≡◌, ℕ, ◌+◌, ◌*◌, ◌<◌, ◌/◌, ◌%◌, Option, Some, sym, ap, ◌∙◌}
use Rattle.std.proofs.lemmas.Nat.{div-mul-add, mod-mul-add}
use Rattle.lalrpop_grammar_symbols.specs.Symbols.{Text}
use Rattle.lalrpop_lr1_theory.specs.Productions as theory
use Rattle.lalrpop_lr1_theory.proofs.ExampleLemmas.{nonterminal_is}
use Rattle.lalrpop_lr1_theory.proofs.StepLemmas.{some_same}
use Rattle.lalrpop_lr1_paths.specs.CompletionSteps.{IsCompletionNode}

pub row_one : (names n m a b : ℕ) → a < names → b < names → n * names + a ≡ m * names + b → (n ≡ m) × (a ≡ b)
row_one names n m a b low high e = (
  sym (div-mul-add n names a low) ∙ ap (λ k. k / names) e ∙ div-mul-add m names b high,
  sym (mod-mul-add n names a low) ∙ ap (λ k. k % names) e ∙ mod-mul-add m names b high,
)

module _ (symbol_at : ℕ → Option theory.Symbol) (names : ℕ) where
  pub node_one : (node n m : ℕ) (B C : Text) → IsCompletionNode symbol_at names node n B → IsCompletionNode symbol_at names node m C →
      (n ≡ m) × (B ≡ C)
  node_one node n m B C a b =
      let r = row_one names n m a.number b.number a.below b.below (sym a.is ∙ b.is) in (
        r.0,
        nonterminal_is B C
            (some_same (theory.nonterminal B) (theory.nonterminal C) (sym a.named ∙ ap symbol_at r.1 ∙ b.named)),
      )

  pub node_same : ((i j : ℕ) (A : Text) → symbol_at i ≡ Some (theory.nonterminal A) →
      symbol_at j ≡ Some (theory.nonterminal A) → i ≡ j) →
      (node other n : ℕ) (B : Text) → IsCompletionNode symbol_at names node n B → IsCompletionNode symbol_at names other n B → node ≡ other
  node_same once node other n B a b =
      a.is ∙ ap (λ k. n * names + k) (once a.number b.number B a.named b.named) ∙ sym b.is
