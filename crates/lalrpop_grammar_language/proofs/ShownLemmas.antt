-- A tree with its leaf texts shown and its leaves give the tree back; for leaves_fix_texts.
use Rattle.std.proofs.Common.{◌≡◌, List, [], ◌∷◌, ◌++◌, refl, ap, ap₂, sym, ◌∙◌, append_assoc}
use Rattle.lalrpop_grammar.specs.Trees.{Token, Tree, Trees, leaves, leaves_of}
use Rattle.lalrpop_grammar_language.specs.Derivations.{with_shown, with_shown_all}

-- the tree with the tokens at its leaves, from left to right, and the tokens that are left
abbrev mutual
  put_back : Tree → List Token → Tree × List Token
  put_back (Tree.rule n args place ts) tokens =
      let r = put_back_all ts tokens in (Tree.rule n args place r.0, r.1)
  put_back (Tree.list ts) tokens = let r = put_back_all ts tokens in (Tree.list r.0, r.1)
  put_back Tree.opt_none tokens = (Tree.opt_none, tokens)
  put_back (Tree.opt_some t) tokens = let r = put_back t tokens in (Tree.opt_some r.0, r.1)
  put_back (Tree.group ts) tokens = let r = put_back_all ts tokens in (Tree.group r.0, r.1)
  put_back (Tree.terminal k) [] = (Tree.terminal k, [])
  put_back (Tree.terminal k) (token ∷ tokens) = (Tree.terminal token, tokens)
  put_back Tree.look tokens = (Tree.look, tokens)

  put_back_all : Trees → List Token → Trees × List Token
  put_back_all Trees.none tokens = (Trees.none, tokens)
  put_back_all (Trees.more t ts) tokens =
      let r = put_back t tokens in let rs = put_back_all ts r.1 in (Trees.more r.0 rs.0, rs.1)

mutual
  given_back : (t : Tree) (rest : List Token) → put_back (with_shown t) (leaves t ++ rest) ≡ (t, rest)
  given_back (Tree.rule n args place ts) rest =
      ap (λ (r : Trees × List Token). (Tree.rule n args place r.0, r.1)) (all_given_back ts rest)
  given_back (Tree.list ts) rest = ap (λ (r : Trees × List Token). (Tree.list r.0, r.1)) (all_given_back ts rest)
  given_back Tree.opt_none rest = refl
  given_back (Tree.opt_some t) rest = ap (λ (r : Tree × List Token). (Tree.opt_some r.0, r.1)) (given_back t rest)
  given_back (Tree.group ts) rest = ap (λ (r : Trees × List Token). (Tree.group r.0, r.1)) (all_given_back ts rest)
  given_back (Tree.terminal k) rest = refl
  given_back Tree.look rest = refl

  all_given_back : (ts : Trees) (rest : List Token) → put_back_all (with_shown_all ts) (leaves_of ts ++ rest) ≡ (ts, rest)
  all_given_back Trees.none rest = refl
  all_given_back (Trees.more t ts) rest =
      ap (put_back_all (with_shown_all (Trees.more t ts))) (append_assoc (leaves t) (leaves_of ts) rest)
      ∙ ap (λ (r : Tree × List Token). let rs = put_back_all (with_shown_all ts) r.1 in (Trees.more r.0 rs.0, rs.1))
      (given_back t (leaves_of ts ++ rest))
      ∙ ap (λ (rs : Trees × List Token). (Trees.more t rs.0, rs.1)) (all_given_back ts rest)

-- two trees that are equal once leaf texts are shown, with equal leaves, are equal
pub shown_and_leaves : (s t : Tree) → with_shown s ≡ with_shown t → leaves s ≡ leaves t → s ≡ t
shown_and_leaves s t shown same =
    ap (λ (r : Tree × List Token). r.0)
    (sym (given_back s []) ∙ ap₂ put_back shown (ap (λ l. l ++ []) same) ∙ given_back t [])
