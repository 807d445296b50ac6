-- Closing in the grammar of levels' rules gives the closed symbols under the names of the levels; for the pass over levels.
use Rattle.std.specs.Str.{bytes_eq}
use Rattle.std.proofs.Common.{◌≡◌, ℕ, suc, ◌+◌, List, [], ◌∷◌, refl, ap, sym, ◌∙◌, cond, Bool, true, false, length}
use Rattle.std.specs.Prelude.{None, option_map, map, ◌==◌, ◌&&◌, if◌then◌else◌}
use Rattle.lalrpop_grammar_symbols.specs.Symbols.{Text, TextSpan, Terminal, Syms, Sym, WrittenSymbol, Closed, Closeds, closed_list}
use Rattle.lalrpop_grammar_language.specs.Enabled.{EnabledGrammar, EnabledRule, has_text}
use Rattle.lalrpop_grammar_language.specs.Levels.{loosest}
use Rattle.lalrpop_grammar_language.specs.Closing.{Scope, Meaning, name_meaning, names_owner, occurrences, call_level}
use Rattle.lalrpop_grammar_language.specs.Closing.{if_plain, if_macro, plain_name, plain_call, close_terminal, name_or, close, close_all}
use Rattle.lalrpop_grammar_language.specs.Closing.{is_sound, are_sound, sound_or_faulty, close_list}
use Rattle.lalrpop_norm_theory.specs.LevelRules.{level_name, by_level_names, all_by_level_names, occurrence_name, rename_occurrences}
use Rattle.lalrpop_norm_theory.specs.LevelRules.{rename_all_occurrences, rename_listed_occurrences, IsLeveledScope}
use Rattle.lalrpop_norm_theory.specs.LevelRules.{IsResolvedAfter, AreResolvedAfter, AreListedResolvedAfter}

same_either : {A : Type 0} (b : Bool) (x y : A) → x ≡ y → cond b x y ≡ x
same_either true x y e = refl
same_either false x y e = sym e

no_call_level : (f : Text → ℕ → Text) (s t : Scope) → IsLeveledScope f s t → (k : ℕ) (n : Text) (q : EnabledRule) →
    loosest q ≡ None →
    call_level t k n q ≡ None
no_call_level f s t w k n q e =
    same_either (bytes_eq n t.owner) (t.level_at k) (loosest q) (w.no_levels k ∙ sym e) ∙ w.no_levels k

occurrence_is : (f : Text → ℕ → Text) (s t : Scope) → IsLeveledScope f s t → (k : ℕ) (n : Text) (r : EnabledRule) →
    name_meaning s.grammar n ≡ Meaning.rule r → occurrence_name f s k n ≡ level_name f n (call_level s k n r)
occurrence_is f s t w k n r m = go (bytes_eq n s.owner)
  where
    go : (b : Bool) → cond b (level_name f n (s.level_at k)) n ≡ level_name f n (cond b (s.level_at k) (loosest r))
    go true = refl
    go false = sym (w.loosest_kept n r m)

as_many : (f : Text → ℕ → Text) (xs : Closeds) → length (closed_list (all_by_level_names f xs)) ≡ length (closed_list xs)
as_many f Closeds.none = refl
as_many f (Closeds.more x xs) = ap suc (as_many f xs)

plain-renamed : (f : Text → ℕ → Text) (ps : List Text) (c : Closed) →
    by_level_names f (if_plain ps c) ≡ if_plain ps (by_level_names f c)
plain-renamed f [] c = refl
plain-renamed f (p ∷ ps) c = refl

macro-renamed : (f : Text → ℕ → Text) (ps : List Text) (args : Closeds) (c : Closed) →
    by_level_names f (if_macro ps args c) ≡ if_macro ps (all_by_level_names f args) (by_level_names f c)
macro-renamed f [] args c = refl
macro-renamed f (p ∷ ps) args c =
    go (length (closed_list args) == length (p ∷ ps))
    ∙ ap (λ n. if n == length (p ∷ ps) then by_level_names f c else Closed.faulty) (sym (as_many f args))
  where
    go : (b : Bool) → by_level_names f (cond b c Closed.faulty) ≡ cond b (by_level_names f c) Closed.faulty
    go true = refl
    go false = refl

rule_case : (f : Text → ℕ → Text) (s t : Scope) → IsLeveledScope f s t → (k j : ℕ) (n : Text) (r : EnabledRule) →
    name_meaning s.grammar n ≡ Meaning.rule r →
    plain_name t j (occurrence_name f s k n) (name_meaning t.grammar (occurrence_name f s k n))
    ≡ by_level_names f (plain_name s k n (name_meaning s.grammar n))
rule_case f s t w k j n r m =
    let q = w.rules k n r m in
    let c : occurrence_name f s k n ≡ level_name f n (call_level s k n r) = occurrence_is f s t w k n r m in
    let mt : name_meaning t.grammar (occurrence_name f s k n) ≡ Meaning.rule q.0 = q.1 in
    let left : plain_name t j (occurrence_name f s k n) (name_meaning t.grammar (occurrence_name f s k n))
    ≡ if_plain q.0.parameters (Closed.call (occurrence_name f s k n) Closeds.none None) =
    ap (λ a. plain_name t j (occurrence_name f s k n) a) mt
    ∙ ap (λ a. if_plain q.0.parameters (Closed.call (occurrence_name f s k n) Closeds.none a))
    (no_call_level f s t w j (occurrence_name f s k n) q.0 q.3) in
    let right : by_level_names f (plain_name s k n (name_meaning s.grammar n))
    ≡ if_plain r.parameters (Closed.call (level_name f n (call_level s k n r)) Closeds.none None) =
    ap (λ a. by_level_names f (plain_name s k n a)) m
    ∙ plain-renamed f r.parameters (Closed.call n Closeds.none (call_level s k n r)) in
    left ∙ ap (λ a. if_plain a (Closed.call (occurrence_name f s k n) Closeds.none None)) q.2
    ∙ ap (λ a. if_plain r.parameters (Closed.call a Closeds.none None)) c ∙ sym right

macro_case : (f : Text → ℕ → Text) (s t : Scope) → IsLeveledScope f s t → (k j : ℕ) (n : Text) (args renamed_args : Closeds) →
    renamed_args ≡ all_by_level_names f args → (r : EnabledRule) → name_meaning s.grammar n ≡ Meaning.rule r →
    plain_call t j (occurrence_name f s k n) renamed_args (name_meaning t.grammar (occurrence_name f s k n))
    ≡ by_level_names f (plain_call s k n args (name_meaning s.grammar n))
macro_case f s t w k j n args renamed_args ab r m =
    let q = w.rules k n r m in
    let c : occurrence_name f s k n ≡ level_name f n (call_level s k n r) = occurrence_is f s t w k n r m in
    let mt : name_meaning t.grammar (occurrence_name f s k n) ≡ Meaning.rule q.0 = q.1 in
    let left : plain_call t j (occurrence_name f s k n) renamed_args (name_meaning t.grammar (occurrence_name f s k n))
    ≡ if_macro q.0.parameters renamed_args (Closed.call (occurrence_name f s k n) renamed_args None) =
    ap (λ a. plain_call t j (occurrence_name f s k n) renamed_args a) mt
    ∙ ap (λ a. if_macro q.0.parameters renamed_args (Closed.call (occurrence_name f s k n) renamed_args a))
    (no_call_level f s t w j (occurrence_name f s k n) q.0 q.3) in
    let right : by_level_names f (plain_call s k n args (name_meaning s.grammar n))
    ≡ if_macro r.parameters (all_by_level_names f args)
    (Closed.call (level_name f n (call_level s k n r)) (all_by_level_names f args) None) =
    ap (λ a. by_level_names f (plain_call s k n args a)) m
    ∙ macro-renamed f r.parameters args (Closed.call n args (call_level s k n r)) in
    left ∙ ap (λ a. if_macro a renamed_args (Closed.call (occurrence_name f s k n) renamed_args None)) q.2
    ∙ ap (λ a. if_macro r.parameters renamed_args (Closed.call a renamed_args None)) c
    ∙ ap (λ a. if_macro r.parameters a (Closed.call (level_name f n (call_level s k n r)) a None)) ab ∙ sym right

terminal_case : (f : Text → ℕ → Text) (g h : EnabledGrammar) (u : Terminal) → h.bares ≡ g.bares →
    close_terminal h u ≡ by_level_names f (close_terminal g u)
terminal_case f g h (Terminal.quoted u) e = refl
terminal_case f g h (Terminal.regex u) e = refl
terminal_case f g h Terminal.error e = refl
terminal_case f g h (Terminal.bare n) e =
    ap (λ l. if has_text n l then Closed.terminal (Terminal.bare n) else Closed.faulty) e ∙ sym (go (has_text n g.bares))
  where
    go : (b : Bool) → by_level_names f (cond b (Closed.terminal (Terminal.bare n)) Closed.faulty)
        ≡ cond b (Closed.terminal (Terminal.bare n)) Closed.faulty
    go true = refl
    go false = refl

mutual
  -- closing the renamed symbol gives the closed symbol under the names of the levels
  pub close_leveled : (f : Text → ℕ → Text) (s t : Scope) → IsLeveledScope f s t → (k j : ℕ) (x : WrittenSymbol) →
      IsResolvedAfter f s t k x → close t j (rename_occurrences f s k x) ≡ by_level_names f (close s k x)
  close_leveled f s t w k j (Sym.expr p xs) h = ap Closed.group (close_all_leveled f s t w k j xs h)
  close_leveled f s t w k j (Sym.ambiguous_id p n) h =
      ap (λ o. name_or o (plain_name t j n (name_meaning t.grammar n)))
      (w.bindings n ∙ ap (λ o. option_map (by_level_names f) o) h.1)
      ∙ sym (ap (λ o. by_level_names f (name_or o (plain_name s k n (name_meaning s.grammar n)))) h.1)
  close_leveled f s t w k j (Sym.nonterminal p n) h = rule_case f s t w k j n h.0 h.1
  close_leveled f s t w k j (Sym.terminal p u) h = terminal_case f s.grammar t.grammar u w.bares
  close_leveled f s t w k j (Sym.macro p n args) h =
      let inside = k + names_owner s.binding s.owner n in
      let there = j + names_owner t.binding t.owner (occurrence_name f s k n) in
      ap (λ o. name_or (option_map (λ c. Closed.faulty) o) (plain_call t j (occurrence_name f s k n)
      (close_all t there (rename_all_occurrences f s inside args)) (name_meaning t.grammar (occurrence_name f s k n)))) h.0.level_not_hidden
      ∙ macro_case f s t w k j n (close_all s inside args) (close_all t there (rename_all_occurrences f s inside args))
      (close_all_leveled f s t w inside there args h.1) h.0.rule h.0.meant
      ∙ sym (ap (λ o. by_level_names f (name_or (option_map (λ c. Closed.faulty) o)
      (plain_call s k n (close_all s inside args) (name_meaning s.grammar n)))) h.0.not_hidden)
  close_leveled f s t w k j (Sym.repeat p op x) h = ap (λ c. Closed.repeat op c) (close_leveled f s t w k j x h)
  close_leveled f s t w k j (Sym.choose p x) h = ap Closed.choose (close_leveled f s t w k j x h)
  close_leveled f s t w k j (Sym.name p m n x) h = ap (λ c. Closed.name m n c) (close_leveled f s t w k j x h)
  close_leveled f s t w k j (Sym.lookahead p) h = refl
  close_leveled f s t w k j (Sym.lookbehind p) h = refl
  close_leveled f s t w k j (Sym.error p) h = refl

  pub close_all_leveled : (f : Text → ℕ → Text) (s t : Scope) → IsLeveledScope f s t → (k j : ℕ) (xs : Syms TextSpan) →
      AreResolvedAfter f s t k xs → close_all t j (rename_all_occurrences f s k xs) ≡ all_by_level_names f (close_all s k xs)
  close_all_leveled f s t w k j Syms.none h = refl
  close_all_leveled f s t w k j (Syms.more x xs) h =
      let after = k + occurrences s.binding s.owner x in
      let there = j + occurrences t.binding t.owner (rename_occurrences f s k x) in
      ap (λ c. Closeds.more c (close_all t there (rename_all_occurrences f s after xs))) (close_leveled f s t w k j x h.0)
      ∙ ap (λ c. Closeds.more (by_level_names f (close s k x)) c) (close_all_leveled f s t w after there xs h.1)

mutual
  -- a symbol under the names of the levels is as sound
  pub sound-renamed : (f : Text → ℕ → Text) (x : Closed) → is_sound (by_level_names f x) ≡ is_sound x
  sound-renamed f (Closed.terminal t) = refl
  sound-renamed f (Closed.call n args level) = all-sound-renamed f args
  sound-renamed f (Closed.repeat op x) = sound-renamed f x
  sound-renamed f (Closed.group xs) = all-sound-renamed f xs
  sound-renamed f (Closed.choose x) = sound-renamed f x
  sound-renamed f (Closed.name m n x) = sound-renamed f x
  sound-renamed f Closed.lookahead = refl
  sound-renamed f Closed.lookbehind = refl
  sound-renamed f Closed.faulty = refl

  pub all-sound-renamed : (f : Text → ℕ → Text) (xs : Closeds) → are_sound (all_by_level_names f xs) ≡ are_sound xs
  all-sound-renamed f Closeds.none = refl
  all-sound-renamed f (Closeds.more x xs) =
      ap (λ b. b && are_sound (all_by_level_names f xs)) (sound-renamed f x) ∙ ap (λ b. is_sound x && b) (all-sound-renamed f xs)

sound_or-renamed : (f : Text → ℕ → Text) (x : Closed) →
    sound_or_faulty (by_level_names f x) ≡ by_level_names f (sound_or_faulty x)
sound_or-renamed f x = ap (λ b. if b then by_level_names f x else Closed.faulty) (sound-renamed f x) ∙ go (is_sound x)
  where
    go : (b : Bool) → cond b (by_level_names f x) Closed.faulty ≡ by_level_names f (cond b x Closed.faulty)
    go true = refl
    go false = refl

-- the closed symbols of a renamed alternative are the closed symbols under the names of the levels
pub close_list_leveled : (f : Text → ℕ → Text) (s t : Scope) → IsLeveledScope f s t → (k j : ℕ) (xs : List WrittenSymbol) →
    AreListedResolvedAfter f s t k xs → close_list t j (rename_listed_occurrences f s k xs) ≡ map (by_level_names f) (close_list s k xs)
close_list_leveled f s t w k j [] h = refl
close_list_leveled f s t w k j (x ∷ xs) h =
    let after = k + occurrences s.binding s.owner x in
    let there = j + occurrences t.binding t.owner (rename_occurrences f s k x) in
    ap (λ c. c ∷ close_list t there (rename_listed_occurrences f s after xs))
    (ap sound_or_faulty (close_leveled f s t w k j x h.0) ∙ sound_or-renamed f (close s k x))
    ∙ ap (λ l. by_level_names f (sound_or_faulty (close s k x)) ∷ l) (close_list_leveled f s t w after there xs h.1)
