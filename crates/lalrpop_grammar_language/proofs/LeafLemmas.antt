-- An admitted tree fixes its tokens: they are its leaves; for tokens_are_leaves and the judge.
use Rattle.std.proofs.Common.{◌≡◌, List, [], ◌∷◌, ◌++◌, ap, ◌∙◌}
use Rattle.lalrpop_grammar_symbols.specs.Symbols.{Closed, closed_list}
use Rattle.lalrpop_grammar.specs.Trees.{Token, Tree, Trees, leaves, leaves_of}
use Rattle.lalrpop_grammar_language.specs.Enabled.{EnabledGrammar}
use Rattle.lalrpop_grammar_language.specs.Closing.{right_side}
use Rattle.lalrpop_grammar_language.specs.Admitting.{bind, Admits, AdmitsAll, AdmitsEach}

mutual
  -- the tokens of an admitted tree are its leaves
  pub tokens_are : (g : EnabledGrammar) (x : Closed) (t : Tree) (tokens : List Token) → Admits g x t tokens → tokens ≡ leaves t
  tokens_are g x (Tree.rule n args place ts) tokens h =
      all_tokens_are g (right_side g h.rule (bind h.rule h.given) h.choice) ts tokens h.children
  tokens_are g x (Tree.list ts) tokens h = each_tokens_are g h.1 ts tokens h.4
  tokens_are g x Tree.opt_none tokens h = h.2
  tokens_are g x (Tree.opt_some t) tokens h = tokens_are g h.0 t tokens h.2
  tokens_are g x (Tree.group ts) tokens h = all_tokens_are g (closed_list h.0) ts tokens h.2
  tokens_are g x (Tree.terminal k) tokens h = h.1
  tokens_are g x Tree.look tokens h = h.1

  -- the tokens of trees that symbols admit, one each, are their leaves
  pub all_tokens_are : (g : EnabledGrammar) (xs : List Closed) (ts : Trees) (tokens : List Token) → AdmitsAll g xs ts tokens
      → tokens ≡ leaves_of ts
  all_tokens_are g [] Trees.none tokens h = h
  all_tokens_are g [] (Trees.more t ts) tokens h = absurd h
  all_tokens_are g (x ∷ xs) Trees.none tokens h = absurd h
  all_tokens_are g (x ∷ xs) (Trees.more t ts) tokens h =
      h.2 ∙ ap (λ l. l ++ h.1) (tokens_are g x t h.0 h.3) ∙ ap (λ l. leaves t ++ l) (all_tokens_are g xs ts h.1 h.4)

  -- the tokens of trees that one symbol admits are their leaves
  pub each_tokens_are : (g : EnabledGrammar) (y : Closed) (ts : Trees) (tokens : List Token) → AdmitsEach g y ts tokens
      → tokens ≡ leaves_of ts
  each_tokens_are g y Trees.none tokens h = h
  each_tokens_are g y (Trees.more t ts) tokens h =
      h.2 ∙ ap (λ l. l ++ h.1) (tokens_are g y t h.0 h.3) ∙ ap (λ l. leaves t ++ l) (each_tokens_are g y ts h.1 h.4)
