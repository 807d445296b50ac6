-- A tree that is admitted over the texts that terminals show is one over any texts, with these at its leaves: for the law on written
-- trees, since trees over productions hold no texts.
use Rattle.std.proofs.Common.{◌≡◌, List, [], ◌∷◌, ◌++◌, refl, ap, sym, ◌∙◌, subst}
use Rattle.std.specs.Prelude.{map}
use Rattle.lalrpop_grammar_language.specs.Levels.{loosest}
use Rattle.lalrpop_grammar_symbols.specs.Symbols.{Text, Closed, Closeds, closed_list, Op}
use Rattle.lalrpop_grammar.specs.Trees.{Token, Tree, Trees}
use Rattle.lalrpop_grammar_language.specs.Enabled.{EnabledGrammar}
use Rattle.lalrpop_grammar_language.specs.Closing.{right_side}
use Rattle.lalrpop_grammar_language.specs.Admitting.{Admits, AdmitsAll, AdmitsEach, AdmitsStart, FitsRepeat, IsTokenTerminal, bind}
use Rattle.lalrpop_grammar_language.specs.Derivations.{shown_token, with_shown, with_shown_all}

-- the tokens with the texts that their terminals show
abbrev pub shown_tokens : List Token → List Token
shown_tokens tokens = map shown_token tokens

-- A tree over these tokens that is the given one once leaf texts are shown.
pub record HasTexts (g : EnabledGrammar) (x : Closed) (shown : Tree) (tokens : List Token) : Type 0 where
  pub tree : Tree
  pub admits : Admits g x tree tokens
  pub shown_is : with_shown tree ≡ shown

-- the same of some trees, of which it is said that they are admitted
record HaveTexts (Admitted : Trees → List Token → Type 0) (shown : Trees) (tokens : List Token) : Type 0 where
  trees : Trees
  admits : Admitted trees tokens
  shown_are : with_shown_all trees ≡ shown

-- The tokens in two parts, of which each is shown so.
record InParts (tokens : List Token) (front : List Token) (back : List Token) : Type 0 where
  first : List Token
  rest : List Token
  tokens_are : tokens ≡ first ++ rest
  front_is : shown_tokens first ≡ front
  back_is : shown_tokens rest ≡ back

in_parts : (tokens front back : List Token) → shown_tokens tokens ≡ front ++ back → InParts tokens front back
in_parts tokens [] back e = record { first = []; rest = tokens; tokens_are = refl; front_is = refl; back_is = e }
in_parts [] (k ∷ front) back e = cc
in_parts (j ∷ tokens) (k ∷ front) back e =
    let head : shown_token j ≡ k = cc in
    let tail : shown_tokens tokens ≡ front ++ back = cc in
    let p = in_parts tokens front back tail in
    record {
      first = j ∷ p.first;
      rest = p.rest;
      tokens_are = ap (λ z. j ∷ z) p.tokens_are;
      front_is = ap (λ z. z ∷ shown_tokens p.first) head ∙ ap (λ z. k ∷ z) p.front_is;
      back_is = p.back_is;
    }

none_shown : (tokens : List Token) → shown_tokens tokens ≡ [] → tokens ≡ []
none_shown [] e = refl
none_shown (k ∷ tokens) e = cc

one_shown : (tokens : List Token) (k : Token) → shown_tokens tokens ≡ k ∷ [] →
    (j : Token) × (tokens ≡ j ∷ []) × (shown_token j ≡ k)
one_shown [] k e = cc
one_shown (j ∷ []) k e = let same : shown_token j ≡ k = cc in (j, refl, same)
one_shown (j ∷ i ∷ tokens) k e = cc

fits_shown : (op : Op) (ts shown : Trees) → with_shown_all ts ≡ shown → FitsRepeat op shown → FitsRepeat op ts
fits_shown Op.star ts shown e f = tt
fits_shown Op.question ts shown e f = absurd f
fits_shown Op.plus Trees.none Trees.none e f = absurd f
fits_shown Op.plus Trees.none (Trees.more t shown) e f = cc
fits_shown Op.plus (Trees.more t ts) shown e f = tt

mutual
  -- the tree over any texts
  pub with_texts : (g : EnabledGrammar) (x : Closed) (t : Tree) (tokens : List Token) → Admits g x t (shown_tokens tokens) →
      HasTexts g x t tokens
  with_texts g x (Tree.rule n args place children) tokens h =
      let r = all_with_texts g (right_side g h.rule (bind h.rule h.given) h.choice) children tokens h.children in
      record {
        tree = Tree.rule n args place r.trees;
        admits = record {
          given = h.given;
          level = h.level;
          symbol_is = h.symbol_is;
          args_are = h.args_are;
          rule = h.rule;
          choice = h.choice;
          fits = h.fits;
          at = h.at;
          low = h.low;
          children = r.admits;
        };
        shown_is = ap (Tree.rule n args place) r.shown_are;
      }
  with_texts g x (Tree.list ts) tokens h =
      let r = each_with_texts g h.1 ts tokens h.4 in
      record {
        tree = Tree.list r.trees;
        admits = (h.0, h.1, h.2, fits_shown h.0 r.trees ts r.shown_are h.3, r.admits);
        shown_is = ap Tree.list r.shown_are;
      }
  with_texts g x Tree.opt_none tokens h =
      record { tree = Tree.opt_none; admits = (h.0, h.1, none_shown tokens h.2); shown_is = refl }
  with_texts g x (Tree.opt_some t) tokens h =
      let r = with_texts g h.0 t tokens h.2 in
      record { tree = Tree.opt_some r.tree; admits = (h.0, h.1, r.admits); shown_is = ap Tree.opt_some r.shown_is }
  with_texts g x (Tree.group ts) tokens h =
      let r = all_with_texts g (closed_list h.0) ts tokens h.2 in
      record { tree = Tree.group r.trees; admits = (h.0, h.1, r.admits); shown_is = ap Tree.group r.shown_are }
  with_texts g x (Tree.terminal k) tokens h =
      let one = one_shown tokens k h.1 in
      let same : one.0.terminal ≡ k.terminal = ap (λ (z : Token). z.terminal) one.2 in
      record {
        tree = Tree.terminal one.0;
        admits = (
          h.0 ∙ ap Closed.terminal (sym same),
          one.1,
          subst (λ z. IsTokenTerminal z) (sym same) h.2,
        );
        shown_is = ap Tree.terminal one.2;
      }
  with_texts g x Tree.look tokens h =
      record { tree = Tree.look; admits = (h.0, none_shown tokens h.1); shown_is = refl }

  all_with_texts : (g : EnabledGrammar) (xs : List Closed) (ts : Trees) (tokens : List Token) →
      AdmitsAll g xs ts (shown_tokens tokens) → HaveTexts (λ us k. AdmitsAll g xs us k) ts tokens
  all_with_texts g [] Trees.none tokens h = record { trees = Trees.none; admits = none_shown tokens h; shown_are = refl }
  all_with_texts g [] (Trees.more t ts) tokens h = absurd h
  all_with_texts g (x ∷ xs) Trees.none tokens h = absurd h
  all_with_texts g (x ∷ xs) (Trees.more t ts) tokens h =
      let p = in_parts tokens h.0 h.1 h.2 in
      let a = with_texts g x t p.first (subst (λ k. Admits g x t k) (sym p.front_is) h.3) in
      let b = all_with_texts g xs ts p.rest (subst (λ k. AdmitsAll g xs ts k) (sym p.back_is) h.4) in
      record {
        trees = Trees.more a.tree b.trees;
        admits = (p.first, p.rest, p.tokens_are, a.admits, b.admits);
        shown_are = ap (λ z. Trees.more z (with_shown_all b.trees)) a.shown_is ∙ ap (Trees.more t) b.shown_are;
      }

  each_with_texts : (g : EnabledGrammar) (y : Closed) (ts : Trees) (tokens : List Token) →
      AdmitsEach g y ts (shown_tokens tokens) → HaveTexts (λ us k. AdmitsEach g y us k) ts tokens
  each_with_texts g y Trees.none tokens h = record { trees = Trees.none; admits = none_shown tokens h; shown_are = refl }
  each_with_texts g y (Trees.more t ts) tokens h =
      let p = in_parts tokens h.0 h.1 h.2 in
      let a = with_texts g y t p.first (subst (λ k. Admits g y t k) (sym p.front_is) h.3) in
      let b = each_with_texts g y ts p.rest (subst (λ k. AdmitsEach g y ts k) (sym p.back_is) h.4) in
      record {
        trees = Trees.more a.tree b.trees;
        admits = (p.first, p.rest, p.tokens_are, a.admits, b.admits);
        shown_are = ap (λ z. Trees.more z (with_shown_all b.trees)) a.shown_is ∙ ap (Trees.more t) b.shown_are;
      }

-- the same from a start
pub start_with_texts : (g : EnabledGrammar) (start : Text) (t : Tree) (tokens : List Token) →
    AdmitsStart g start t (shown_tokens tokens) → (u : Tree) × AdmitsStart g start u tokens × (with_shown u ≡ t)
start_with_texts g start t tokens h =
    let r = with_texts g (Closed.call start Closeds.none (loosest h.rule)) t tokens h.admits in (
      r.tree,
      record { rule = h.rule; is_rule = h.is_rule; no_macro = h.no_macro; admits = r.admits },
      r.shown_is,
    )
