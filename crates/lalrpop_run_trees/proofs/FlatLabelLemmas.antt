-- Flat labels by any number of steps that is enough are the same, and how they grow mark by mark. For the functions that tell them.
use Rattle.std.proofs.Common.{◌≡◌, ◌≤◌, ◌<◌, ◌++◌, ◌∷◌, [], ◌∙◌, ℕ, zero, suc, List, Bool, true, false, refl, ap, sym, arith, drop, get_or, ◌+◌, append-nil, append_assoc, length}
use Rattle.std.specs.Prelude.{Option, Some, None, nat_lt, option_map, if◌then◌else◌}
use Rattle.std.specs.Option.{option_and_then}
use Rattle.std.proofs.lemmas.Bool.{ltb-true, lt-ltb}
use Rattle.std.proofs.lemmas.List.{drop_more}
use Rattle.lalrpop_grammar_repr.specs.declared.action.ActionFnDefn.{ActionFnDefn}
use Rattle.lalrpop_grammar_repr.specs.declared.action.InlineActionFnDefn.{InlineActionFnDefn}
use Rattle.lalrpop_grammar_repr.specs.declared.action.InlinedSymbol.{InlinedSymbol}
use Rattle.lalrpop_grammar_repr.specs.declared.action.InlinedSymbol.TheVariants as symbols
use Rattle.lalrpop_run_trees.specs.FlatLabels.{entry_marks, flat_of, flat_within, made_marks, put_marks, record_at}
use Rattle.lalrpop_run_trees.specs.declared.flat_labels.mark.LabelMark.{LabelMark}
use Rattle.lalrpop_run_trees.specs.declared.flat_labels.mark.LabelMark.TheVariants as marks

-- nothing is made, and then the rest
pub option_map_same : (rest : Option (List LabelMark)) → option_map (λ x. [] ++ x) rest ≡ rest
option_map_same None = refl
option_map_same (Some r) = refl

-- what is made, and then more, and then the rest
pub grow : (made more : List LabelMark) (rest : Option (List LabelMark)) →
    option_map (λ x. made ++ x) (option_map (λ x. more ++ x) rest) ≡ option_map (λ x. (made ++ more) ++ x) rest
grow made more None = refl
grow made more (Some r) = ap Some (sym (append_assoc made more r))

-- something is left of a list from a place in it on
pub drop_some : {X : Type 0} (xs : List X) (k : ℕ) → k < length xs → (x : X) × (drop k xs ≡ x ∷ drop (k + 1) xs)
drop_some [] k l = absurd (omega (arith, l))
drop_some (x ∷ xs) k l = (get_or (x ∷ xs) k x, drop_more (x ∷ xs) k x l)

module _ (flat : ℕ → ℕ → Option (List LabelMark)) (below : ℕ) where
  -- a given action stays
  pub put_given : (entries : List InlinedSymbol) (k : ℕ) (outer : List LabelMark) →
      put_marks flat below entries (marks.Given k ∷ outer)
      ≡ option_map (λ x. (marks.Given k ∷ []) ++ x) (put_marks flat below entries outer)
  put_given [] k outer = refl
  put_given (s ∷ rest) k outer = refl

  -- a symbol that was kept takes what stands for the next symbol of the record
  pub put_kept : (s : InlinedSymbol) (rest : List InlinedSymbol) (outer e : List LabelMark) → entry_marks flat below s ≡ Some e →
      put_marks flat below (s ∷ rest) (marks.Kept ∷ outer) ≡ option_map (λ x. e ++ x) (put_marks flat below rest outer)
  put_kept s rest outer e is = ap (option_and_then (λ e. option_map (λ made. e ++ made) (put_marks flat below rest outer))) is

  pub put_stuck : (s : InlinedSymbol) (rest : List InlinedSymbol) (outer : List LabelMark) → entry_marks flat below s ≡ None →
      put_marks flat below (s ∷ rest) (marks.Kept ∷ outer) ≡ None
  put_stuck s rest outer is = ap (option_and_then (λ e. option_map (λ made. e ++ made) (put_marks flat below rest outer))) is

  -- The whole is what is made with what the rest gives. So it is when a given action is made, too,
  pub made_given : (whole : Option (List LabelMark)) (made : List LabelMark) (entries : List InlinedSymbol) (k : ℕ) (outer : List LabelMark)
      → whole ≡ option_map (λ x. made ++ x) (put_marks flat below entries (marks.Given k ∷ outer))
      → whole ≡ option_map (λ x. (made ++ marks.Given k ∷ []) ++ x) (put_marks flat below entries outer)
  made_given whole made entries k outer h =
      h ∙ ap (option_map (λ x. made ++ x)) (put_given entries k outer) ∙ grow made (marks.Given k ∷ []) (put_marks flat below entries outer)

  -- and what stands for the next symbol,
  pub made_kept : (whole : Option (List LabelMark)) (made : List LabelMark) (s : InlinedSymbol) (rest : List InlinedSymbol)
      (outer e : List LabelMark) → entry_marks flat below s ≡ Some e
      → whole ≡ option_map (λ x. made ++ x) (put_marks flat below (s ∷ rest) (marks.Kept ∷ outer))
      → whole ≡ option_map (λ x. (made ++ e) ++ x) (put_marks flat below rest outer)
  made_kept whole made s rest outer e is h =
      h ∙ ap (option_map (λ x. made ++ x)) (put_kept s rest outer e is) ∙ grow made e (put_marks flat below rest outer)

  -- if it has something to stand for it;
  pub none_for_symbol : (whole : Option (List LabelMark)) (made : List LabelMark) (s : InlinedSymbol) (rest : List InlinedSymbol)
      (outer : List LabelMark) → entry_marks flat below s ≡ None
      → whole ≡ option_map (λ x. made ++ x) (put_marks flat below (s ∷ rest) (marks.Kept ∷ outer)) → whole ≡ None
  none_for_symbol whole made s rest outer is h = h ∙ ap (option_map (λ x. made ++ x)) (put_stuck s rest outer is)

  -- and if there are symbols enough,
  pub no_symbol : (whole : Option (List LabelMark)) (made : List LabelMark) (entries : List InlinedSymbol) (outer : List LabelMark) → entries ≡ []
      → whole ≡ option_map (λ x. made ++ x) (put_marks flat below entries (marks.Kept ∷ outer)) → whole ≡ None
  no_symbol whole made entries outer is h = h ∙ ap (λ ss. option_map (λ x. made ++ x) (put_marks flat below ss (marks.Kept ∷ outer))) is

  -- none too many,
  pub symbols_left : (whole : Option (List LabelMark)) (made : List LabelMark) (s : InlinedSymbol) (rest : List InlinedSymbol)
      → whole ≡ option_map (λ x. made ++ x) (put_marks flat below (s ∷ rest) []) → whole ≡ None
  symbols_left whole made s rest h = h

  -- and then it is what is made.
  pub all_made : (whole : Option (List LabelMark)) (made : List LabelMark)
      → whole ≡ option_map (λ x. made ++ x) (put_marks flat below [] []) → whole ≡ Some made
  all_made whole made h = h ∙ ap Some (append-nil made)

-- choices with one test are the same where they are where it holds
choice_same : (b : Bool) (x y : Option (List LabelMark)) → (b ≡ true → x ≡ y) → (if b then x else None) ≡ (if b then y else None)
choice_same true x y h = h refl
choice_same false x y h = refl

else_same : (b : Bool) (z x y : Option (List LabelMark)) → x ≡ y → (if b then z else x) ≡ (if b then z else y)
else_same true z x y h = refl
else_same false z x y h = h

module _ (F G : ℕ → ℕ → Option (List LabelMark)) (below : ℕ) (same : (a n : ℕ) → a < below → F a n ≡ G a n) where
  entry_same : (s : InlinedSymbol) → entry_marks F below s ≡ entry_marks G below s
  entry_same (symbols.Original s) = refl
  entry_same (symbols.Inlined action side) =
      choice_same (nat_lt action.0 below) (F action.0 (length side)) (G action.0 (length side)) (λ h. same action.0 (length side) (ltb-true _ _ h))

  put_same : (entries : List InlinedSymbol) (outer : List LabelMark) → put_marks F below entries outer ≡ put_marks G below entries outer
  put_same [] [] = refl
  put_same (s ∷ rest) [] = refl
  put_same [] (marks.Given k ∷ outer) = ap (option_map (λ made. marks.Given k ∷ made)) (put_same [] outer)
  put_same (s ∷ rest) (marks.Given k ∷ outer) = ap (option_map (λ made. marks.Given k ∷ made)) (put_same (s ∷ rest) outer)
  put_same [] (marks.Kept ∷ outer) = refl
  put_same (s ∷ rest) (marks.Kept ∷ outer) =
      ap (option_and_then (λ e. option_map (λ made. e ++ made) (put_marks F below rest outer))) (entry_same s)
      ∙ ap (λ p. option_and_then (λ e. option_map (λ made. e ++ made) p) (entry_marks G below s)) (put_same rest outer)

  made_same : (r : Option InlineActionFnDefn) → made_marks F below r ≡ made_marks G below r
  made_same None = refl
  made_same (Some i) =
      choice_same (nat_lt i.action.0 below) _ _ (λ h.
      ap (option_and_then (put_marks F below i.symbols)) (same i.action.0 (length i.symbols) (ltb-true _ _ h))
      ∙ then_same (G i.action.0 (length i.symbols)))
    where
      then_same : (o : Option (List LabelMark)) → option_and_then (put_marks F below i.symbols) o
          ≡ option_and_then (put_marks G below i.symbols) o
      then_same None = refl
      then_same (Some outer) = put_same i.symbols outer

module _ (actions : List ActionFnDefn) (given : ℕ) where
  same_steps : (f g k count : ℕ) → k < f → k < g → flat_within f actions given k count ≡ flat_within g actions given k count
  same_steps zero g k count hf hg = absurd (omega (arith, hf))
  same_steps (suc f) zero k count hf hg = absurd (omega (arith, hg))
  same_steps (suc f) (suc g) k count hf hg =
      else_same (nat_lt k given) _ _ _ (made_same (flat_within f actions given) (flat_within g actions given) k
      (λ a n h. same_steps f g a n (omega (arith, h, hf)) (omega (arith, h, hg))) (record_at actions k))

  -- the flat label of a made action, by those of the actions below it
  pub flat_made : (k count : ℕ) → given ≤ k → flat_of actions given k count ≡ made_marks (flat_of actions given) k (record_at actions k)
  flat_made k count h =
      else_taken (nat_lt k given) _ _ (not_below (nat_lt k given) refl)
      ∙ made_same (flat_within k actions given) (flat_of actions given) k
      (λ a n l. same_steps k (suc a) a n l (omega (arith, l))) (record_at actions k)
    where
      not_below : (b : Bool) → nat_lt k given ≡ b → b ≡ false
      not_below true e = absurd (omega (arith, h, ltb-true _ _ e))
      not_below false e = refl

      else_taken : (b : Bool) (x y : Option (List LabelMark)) → b ≡ false → (if b then x else y) ≡ y
      else_taken true x y e = absurd (cc)
      else_taken false x y e = refl

  -- where it has a record
  pub flat_by_record : (k count : ℕ) (i : InlineActionFnDefn) → given ≤ k → record_at actions k ≡ Some i → i.action.0 < k
      → flat_of actions given k count
      ≡ option_and_then (put_marks (flat_of actions given) k i.symbols) (flat_of actions given i.action.0 (length i.symbols))
  flat_by_record k count i h is l =
      flat_made k count h ∙ ap (made_marks (flat_of actions given) k) is ∙ if_taken (nat_lt i.action.0 k) _ _ (lt-ltb i.action.0 k l)
    where
      if_taken : (b : Bool) (x y : Option (List LabelMark)) → b ≡ true → (if b then x else y) ≡ x
      if_taken true x y e = refl
      if_taken false x y e = absurd (cc)
