-- What is compiled from a pattern says what the pattern finds: for the table of patterns.
use Rattle.std.proofs.Common.{◌≡◌, Bool, true, false, cond, Option, Some, None, Bor, inl, inr, refl, ap, sym, subst, ◌∙◌}
use Rattle.std.proofs.lemmas.Map.Text.{hash_map_updates_str}
use Rattle.std.proofs.lemmas.Slice.Eq.{bytes_eq-Decides}
use Rattle.std.specs.HashMap.{IsUnchanged, Updates}
use Rattle.std.specs.Map.{lookup}
use Rattle.std.specs.Option.{ForSome}
use Rattle.std.specs.Prelude.{◌&&◌, Result, Ok, Err, OnErr, OnOk, is_some, not, option_map}
use Rattle.std.specs.Str.{bytes_eq}
use Rattle.lalrpop_grammar_symbols.specs.Symbols.{Text}
use Rattle.lalrpop_grammar_rules.specs.Finding.{IsReadPattern, IsUnread}
use Rattle.lalrpop_grammar_rules.specs.Search.{finds, is_too_deep, search_pattern}
use Rattle.lalrpop_judge.specs.Compiled.{CompiledTable, IsCompiledFrom, IsCompiledTable, compiled_at, is_readable}
use Rattle.lalrpop_judge.specs.declared.compiled.CompiledPattern.{CompiledPattern}

module _ {A : Type 0} (test : A → Bool) where
  by_read : (o : Option A) (deep : Bool) → IsReadPattern (option_map test o) deep → (is_some o && not deep) ≡ true
  by_read None deep h = absurd (h.0 refl)
  by_read (Some x) true h = absurd (let e : true ≡ false = h.1 in cc)
  by_read (Some x) false h = refl

  by_unread : (o : Option A) (deep : Bool) → IsUnread (option_map test o) deep → (is_some o && not deep) ≡ false
  by_unread None deep h = refl
  by_unread (Some x) true h = refl
  by_unread (Some x) false (inl e) = absurd (cc)
  by_unread (Some x) false (inr e) = absurd (cc)

module _ (pattern text : Text) where
  -- a pattern is read exactly where the search for it may be known
  pub readable_from : IsReadPattern (finds pattern text) (is_too_deep pattern) → is_readable pattern ≡ true
  readable_from h = by_read _ (search_pattern pattern) (is_too_deep pattern) h

  pub unreadable_from : IsUnread (finds pattern text) (is_too_deep pattern) → is_readable pattern ≡ false
  unreadable_from h = by_unread _ (search_pattern pattern) (is_too_deep pattern) h

-- the same key or another
right_by : (old : Option CompiledPattern) (at pattern : Text) (w c : CompiledPattern) (b : Bool) → (b ≡ true → at ≡ pattern)
    → IsCompiledFrom at w → ForSome old (IsCompiledFrom pattern) → cond b (Some w) old ≡ Some c
    → IsCompiledFrom pattern c
right_by old at pattern w c true same here right e =
    let is : w ≡ c = cc in
    subst (λ x. IsCompiledFrom x c) (same refl) (subst (IsCompiledFrom at) is here)
right_by old at pattern w c false same here right e = right c e

-- a table stays right with a pattern more, and where it stays as it is
pub right_after : {E : Type 0} (put : Result (Option CompiledPattern) E) (old new : CompiledTable) (at : Bor Text)
    (w : CompiledPattern) → IsCompiledTable old → IsCompiledFrom at.now w
    → OnOk put (Updates (λ x y. bytes_eq x.now y.now) old new at (Some w)) → OnErr put (IsUnchanged old new)
    → IsCompiledTable new
right_after (Ok before) old new at w right here updates same = λ pattern c e.
    right_by (compiled_at old pattern) at.now pattern w c (bytes_eq at.now pattern) (bytes_eq-Decides at.now pattern).0 here
    (right pattern) (sym (hash_map_updates_str at.now old new (Some w) updates pattern) ∙ e)
right_after (Err fault) old new at w right here updates same = λ pattern c e.
    right pattern c (ap (lookup (λ k. bytes_eq pattern k.now)) (sym same) ∙ e)
