-- What the tables of trees that begin with a terminal say: for the calls on them.
use Rattle.std.proofs.Common.{◌≡◌, ◌∙◌, ◌⊎◌, ℕ, ◌<◌, true, List, length, ap, sym, subst, refl, arith}
use Rattle.std.proofs.Common.{Option, Some, None, inl, inr}
use Rattle.std.specs.Option.{option_and_then, option_map}
use Rattle.std.proofs.lemmas.Option.{slice_get-get_or}
use Rattle.lalrpop_grammar_symbols.specs.Symbols.{Terminal}
use Rattle.lalrpop_grammar_symbols.specs.declared.names.NonterminalString.{NonterminalString}
use Rattle.lalrpop_grammar_repr.specs.Maps.{at_name}
use Rattle.lalrpop_lr1_theory.specs.Productions as theory
use Rattle.lalrpop_lr1_theory.proofs.StepLemmas.{some_same}
use Rattle.lalrpop_lr1_first.specs.FirstNumbers.{name_count}
use Rattle.lalrpop_lr1_first.specs.declared.numbered.Numbered.{Numbered}
use Rattle.lalrpop_lr1_least_trees.specs.LeastTrees.{AreLeastMoves, IsLeast, IsLeastTree}
use Rattle.lalrpop_lr1_least_trees.specs.declared.least_counts.counts.LeastTree.{LeastTree}
use Rattle.lalrpop_lr1_least_trees.specs.declared.least_counts.rule.NumberMove.{NumberMove}
use Rattle.lalrpop_lr1_least_trees.specs.declared.least_counts.rule.Rule.{Rule}
use Rattle.lalrpop_lr1_least_trees.specs.NumberedTrees.{NamesAreBelow, rule_views}
use Rattle.lalrpop_lr1_least_trees.specs.Openings.{entry_at}
use Rattle.lalrpop_lr1_least_trees.proofs.RuleLemmas.{views_long}
use Rattle.lalrpop_lr1_least_trees.specs.declared.least_trees.LeastTrees.{LeastTrees}
use Rattle.lalrpop_lr1_least_trees.specs.GrammarTrees.{AreLeastTrees, number_rules, productions_by, symbols_by}
use Rattle.lalrpop_lr1_least_trees.proofs.AnswerLemmas.{symbol_there}
use Rattle.lalrpop_lr1_least_trees.proofs.GrammarLemmas.{stand_for}
use Rattle.lalrpop_lr1_least_trees.specs.declared.begin_trees.begin_trees.BeginTrees.{BeginTrees}
use Rattle.lalrpop_lr1_least_trees.specs.declared.begin_trees.derived.Derived.{Derived}
use Rattle.lalrpop_lr1_least_trees.specs.BeginForests.{IsWanted}
use Rattle.lalrpop_lr1_least_trees.specs.BeginTables.{AreBeginTrees, begin_entry_of, begin_number_of}
use Rattle.lalrpop_lr1_least_trees.specs.DerivedRules.{AreDerived, all_names, begin_symbol}
use Rattle.lalrpop_lr1_least_trees.proofs.ForthLemmas.{derived_below}

-- rules that are derived from lent ones
pub lent_derived : (trees : LeastTrees) → AreLeastTrees trees → (names wanted : ℕ) (rules : List Rule) (derived : Derived) →
    names ≡ name_count trees.table → rules ≡ trees.rules.items → AreDerived names wanted (rule_views rules) (length rules) derived
    →
    AreDerived (name_count trees.table) wanted (number_rules trees.table) (length (number_rules trees.table)) derived
lent_derived trees are names wanted rules derived e f d =
    let views : rule_views rules ≡ number_rules trees.table = ap rule_views f ∙ are.rules in
    let long : length rules ≡ length (number_rules trees.table) = sym (views_long rules) ∙ ap length views in
    subst (λ n. AreDerived n wanted (number_rules trees.table) (length (number_rules trees.table)) derived) e
    (subst (λ k. AreDerived names wanted (number_rules trees.table) k derived) long
    (subst (λ rs. AreDerived names wanted rs (length rules) derived) views d))

-- rules that are derived for a terminal are for names below the count of names in all their kinds
pub derived_names : (trees : LeastTrees) → AreLeastTrees trees → (wanted : ℕ) (t : Terminal) → IsWanted (symbols_by trees.table) t
    wanted →
    (derived : Derived) → AreDerived (name_count trees.table) wanted (number_rules trees.table) (length (number_rules trees.table))
    derived →
    NamesAreBelow (all_names (name_count trees.table)) (rule_views derived.rules.items)
derived_names trees are wanted t is derived d =
    derived_below (symbols_by trees.table) (name_count trees.table) (number_rules trees.table) (productions_by trees.table)
    (stand_for trees.table are.table) wanted t is derived d

module _ (it : BeginTrees) (are : AreBeginTrees it) (n : NonterminalString) where
  abbrev table : Numbered
  table = it.trees.now.table

  abbrev names : ℕ
  names = name_count it.trees.now.table

  -- a name's number
  pub number_symbol : (k : ℕ) → at_name n it.trees.now.numbers ≡ Some k → symbols_by table k ≡ Some (theory.nonterminal n.0)
  number_symbol k e = symbol_there it.trees.now are.trees n true k e

  pub number_below : (k : ℕ) → at_name n it.trees.now.numbers ≡ Some k → k < names
  number_below k e = (stand_for table are.trees.table).name_below k n.0 (number_symbol k e)

  -- its number for trees that begin with the terminal is inside
  pub begin_inside : (k : ℕ) → at_name n it.trees.now.numbers ≡ Some k → begin_symbol names k < length it.begins.items
  begin_inside k e = omega (arith, number_below k e, are.least.count)

-- least moves by the derived rules as they are lent
pub derived_moves : (it : BeginTrees) → AreBeginTrees it → (rules : List Rule) (entries : List (Option LeastTree)) →
    rules ≡ it.derived.rules.items → entries ≡ it.begins.items → (ss : List ℕ) (found : Option (List NumberMove)) →
    AreLeastMoves (rule_views rules) (length entries) true ss found →
    AreLeastMoves (rule_views it.derived.rules.items) (all_names (name_count it.trees.now.table)) true ss found
derived_moves it are rules entries e f ss found m =
    let long : length entries ≡ all_names (name_count it.trees.now.table) = ap length f ∙ are.least.count in
    subst (λ k. AreLeastMoves (rule_views it.derived.rules.items) k true ss found) long
    (subst (λ rs. AreLeastMoves (rule_views rs) (length entries) true ss found) e m)

-- a name's number for trees that begin with the terminal, by its own
pub record IsBeginNumber (it : BeginTrees) (n : NonterminalString) (b : ℕ) : Type 0 where
  pub number : ℕ
  pub at : at_name n it.trees.now.numbers ≡ Some number
  pub is : begin_symbol (name_count it.trees.now.table) number ≡ b

-- a name's number for trees that begin with the terminal comes from a number of its own
pub begin_number_there : (it : BeginTrees) (n : NonterminalString) (b : ℕ) → Some b ≡ begin_number_of it n → IsBeginNumber it n b
begin_number_there it n b e = go (at_name n it.trees.now.numbers) refl
  where
    go : (o : Option ℕ) → at_name n it.trees.now.numbers ≡ o → IsBeginNumber it n b
    go None f =
        let both : Some b ≡ None = e ∙ ap (option_map (begin_symbol (name_count it.trees.now.table))) f in
        let w : ⊥ = cc in absurd w
    go (Some k) f = record {
      number = k;
      at = f;
      is = some_same (begin_symbol (name_count it.trees.now.table) k) b
          (sym (e ∙ ap (option_map (begin_symbol (name_count it.trees.now.table))) f));
    }

-- a name without a number for trees that begin with the terminal has none of its own
pub begin_number_missing : (it : BeginTrees) (n : NonterminalString) → None ≡ begin_number_of it n → at_name n it.trees.now.numbers
    ≡ None
begin_number_missing it n e = go (at_name n it.trees.now.numbers) refl
  where
    go : (o : Option ℕ) → at_name n it.trees.now.numbers ≡ o → at_name n it.trees.now.numbers ≡ None
    go None f = f
    go (Some k) f =
        let both : None ≡ Some (begin_symbol (name_count it.trees.now.table) k) =
        e ∙ ap (option_map (begin_symbol (name_count it.trees.now.table))) f in
        let w : ⊥ = cc in absurd w

-- what an entry says
abbrev pub BeginLeast : BeginTrees → ℕ → Option LeastTree → Type 0
BeginLeast it b entry = IsLeast (rule_views it.derived.rules.items) (all_names (name_count it.trees.now.table)) true b entry

module _ (it : BeginTrees) (are : AreBeginTrees it) (n : NonterminalString) where
  pub begin_entry : (k : ℕ) → at_name n it.trees.now.numbers ≡ Some k →
      BeginLeast it (begin_symbol (name_count it.trees.now.table) k)
      (entry_at it.begins.items (begin_symbol (name_count it.trees.now.table) k))
  begin_entry k e =
      are.least.least (begin_symbol (name_count it.trees.now.table) k)
      (entry_at it.begins.items (begin_symbol (name_count it.trees.now.table) k))
      (slice_get-get_or it.begins.items (begin_symbol (name_count it.trees.now.table) k) None (begin_inside it are n k e))

  -- an entry is that of the name's number
  pub record IsEntry (tree : LeastTree) : Type 0 where
    pub number : ℕ
    pub at : at_name n it.trees.now.numbers ≡ Some number
    pub least : IsLeastTree (rule_views it.derived.rules.items) (all_names (name_count it.trees.now.table)) true
        (begin_symbol (name_count it.trees.now.table) number) tree

  pub entry_there : (tree : LeastTree) → Some tree ≡ begin_entry_of it n → IsEntry tree
  entry_there tree e = go (at_name n it.trees.now.numbers) refl
    where
      go : (o : Option ℕ) → at_name n it.trees.now.numbers ≡ o → IsEntry tree
      go None f =
          let both : Some tree ≡ None =
          e ∙ ap (λ o. option_and_then (entry_at it.begins.items) (option_map (begin_symbol (name_count it.trees.now.table)) o)) f in
          let w : ⊥ = cc in absurd w
      go (Some k) f = record {
        number = k;
        at = f;
        least = subst (BeginLeast it (begin_symbol (name_count it.trees.now.table) k))
            (sym (e ∙ ap (λ o. option_and_then (entry_at it.begins.items)
            (option_map (begin_symbol (name_count it.trees.now.table)) o)) f))
            (begin_entry k f);
      }

  -- without an entry there is no number, or no moves
  pub entry_missing : None ≡ begin_entry_of it n → (at_name n it.trees.now.numbers ≡ None) ⊎
      ((k : ℕ) × (at_name n it.trees.now.numbers ≡ Some k)
      × BeginLeast it (begin_symbol (name_count it.trees.now.table) k) None)
  entry_missing e = go (at_name n it.trees.now.numbers) refl
    where
      go : (o : Option ℕ) → at_name n it.trees.now.numbers ≡ o →
          (at_name n it.trees.now.numbers ≡ None) ⊎ ((k : ℕ) × (at_name n it.trees.now.numbers ≡ Some k)
          × BeginLeast it (begin_symbol (name_count it.trees.now.table) k) None)
      go None f = inl f
      go (Some k) f = inr (
        k,
        f,
        subst (BeginLeast it (begin_symbol (name_count it.trees.now.table) k))
            (sym (e ∙ ap (λ o. option_and_then (entry_at it.begins.items)
            (option_map (begin_symbol (name_count it.trees.now.table)) o)) f))
            (begin_entry k f),
      )
