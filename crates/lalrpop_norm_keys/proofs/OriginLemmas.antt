-- A grammar without the origins of its alternatives has the same calls, keys and roots; for grammars between passes.
use Rattle.std.proofs.Common.{◌≡◌, ℕ, ◌+◌, List, [], ◌∷◌, refl, ap, sym, ◌∙◌, cond, map}
use Rattle.std.specs.Prelude.{Bool, true, false, ◌||◌, Option, Some, None, filter, filter_map, option_map, codes, nat_lt}
use Rattle.std.specs.Prelude.{if◌then◌else◌}
use Rattle.std.specs.List.{cons_option, list_any}
use Rattle.std.specs.Str.{bytes_eq}
use Rattle.lalrpop_grammar_symbols.specs.Symbols.{Text, TextSpan, Terminal, Closed, Closeds, Sym, Syms, WrittenSymbol, syms}
use Rattle.lalrpop_grammar.specs.WrittenGrammar.{Origin}
use Rattle.lalrpop_grammar_language.specs.Enabled.{EnabledGrammar, EnabledRule, Choice, IsRule, has_attr, has_name, has_text}
use Rattle.lalrpop_grammar_language.specs.Enabled.{rules_named}
use Rattle.lalrpop_grammar_language.specs.Levels.{Rank, with_ranks, written_level, written_assoc, rank_after, has_levels, ranked_choices}
use Rattle.lalrpop_grammar_language.specs.Levels.{levels, loosest, greatest, tighter, allowed_level, allowed_level_above, reaches}
use Rattle.lalrpop_grammar_language.specs.Closing.{Binding, Meaning, Scope, parameter_value, close, close_all, close_list, close_terminal}
use Rattle.lalrpop_grammar_language.specs.Closing.{if_plain, if_macro, name_meaning, name_meaning_in, name_or, names_owner, occurrences}
use Rattle.lalrpop_grammar_language.specs.Closing.{occurrences_in, plain_call, plain_name, right_side, sound_or_faulty}
use Rattle.lalrpop_norm_theory.proofs.RuleChangeLemmas.{only_of_map}

-- what is left of an alternative, a rule and a grammar without origins
abbrev pub plain_choice : Choice → Choice
plain_choice c = record c { origin = Origin.start }

-- a rule without the origins of its alternatives
abbrev pub plain_rule : EnabledRule → EnabledRule
plain_rule r = record r { choices = map plain_choice r.choices }

-- an alternative and its rank without the origin
abbrev pub plain_pair : Choice × Option Rank → Choice × Option Rank
plain_pair p = (plain_choice p.0, p.1)

-- a grammar without origins, in which each name is spelled as it stands
abbrev pub plain_grammar : EnabledGrammar → EnabledGrammar
plain_grammar g = record g { rules = map plain_rule g.rules; spelled = λ n. n }

-- ranks

abbrev says_level : Choice → Bool
says_level c = has_attr (codes "precedence") c.attributes

any_plain : (cs : List Choice) → list_any says_level (map plain_choice cs) ≡ list_any says_level cs
any_plain [] = refl
any_plain (c ∷ cs) = ap (λ (b : Bool). says_level c || b) (any_plain cs)

-- a rule without origins has levels exactly where it has them with origins
pub levels_plain : (r : EnabledRule) → has_levels (plain_rule r) ≡ has_levels r
levels_plain r = any_plain r.choices

ranks_plain : (last : Option Rank) (cs : List Choice) → with_ranks last (map plain_choice cs) ≡ map plain_pair (with_ranks last cs)
ranks_plain last [] = refl
ranks_plain last (c ∷ cs) =
    ap (λ l. plain_pair (c, rank_after last (written_level c) (written_assoc c)) ∷ l)
    (ranks_plain (rank_after last (written_level c) (written_assoc c)) cs)

abbrev without_rank : Choice → Choice × Option Rank
without_rank c = (c, None)

unranked_plain : (cs : List Choice) → map without_rank (map plain_choice cs) ≡ map plain_pair (map without_rank cs)
unranked_plain [] = refl
unranked_plain (c ∷ cs) = ap (λ l. without_rank (plain_choice c) ∷ l) (unranked_plain cs)

-- the ranks of alternatives stay the same without their origins
pub ranked_plain : (r : EnabledRule) → ranked_choices (plain_rule r) ≡ map plain_pair (ranked_choices r)
ranked_plain r = ap left (levels_plain r) ∙ go (has_levels r)
  where
    left : Bool → List (Choice × Option Rank)
    left b = cond b (with_ranks None (map plain_choice r.choices)) (map without_rank (map plain_choice r.choices))

    go : (b : Bool) → left b ≡ map plain_pair (cond b (with_ranks None r.choices) (map without_rank r.choices))
    go true = ranks_plain None r.choices
    go false = unranked_plain r.choices

abbrev level_part : Choice × Option Rank → Option ℕ
level_part p = option_map (λ (k : Rank). k.level) p.1

parts_plain : (ps : List (Choice × Option Rank)) → filter_map level_part (map plain_pair ps) ≡ filter_map level_part ps
parts_plain [] = refl
parts_plain (p ∷ ps) = ap (λ l. cons_option (level_part p) l) (parts_plain ps)

-- the levels that are present in a rule stay the same without origins
pub same_levels : (r : EnabledRule) → levels (plain_rule r) ≡ levels r
same_levels r = ap (filter_map level_part) (ranked_plain r) ∙ parts_plain (ranked_choices r)

-- and so does the loosest
pub loosest_plain : (r : EnabledRule) → loosest (plain_rule r) ≡ loosest r
loosest_plain r = ap greatest (same_levels r)

-- the next tighter level stays the same without origins
pub tighter_plain : (r : EnabledRule) (j : ℕ) → tighter (plain_rule r) j ≡ tighter r j
tighter_plain r j = ap (λ (ns : List ℕ). greatest (filter (λ (n : ℕ). nat_lt n j) ns)) (same_levels r)

-- the greatest level that an occurrence may have stays the same without origins
pub allowed_plain : (r : EnabledRule) (rank : Option Rank) (n i : ℕ)
    → allowed_level (plain_rule r) rank n i ≡ allowed_level r rank n i
allowed_plain r None n i = loosest_plain r
allowed_plain r (Some k) n i =
    ap (λ (t : Option ℕ). allowed_level_above (plain_rule r) k (reaches k.side n i) t) (tighter_plain r k.level)
    ∙ above (tighter r k.level)
  where
    above : (t : Option ℕ) → allowed_level_above (plain_rule r) k (reaches k.side n i) t
        ≡ allowed_level_above r k (reaches k.side n i) t
    above None = loosest_plain r
    above (Some j) = refl

-- names

named_among : (n : Text) (rs : List EnabledRule) → filter (has_name n) (map plain_rule rs) ≡ map plain_rule (filter (has_name n) rs)
named_among n [] = refl
named_among n (r ∷ rs) = go (has_name n r) (named_among n rs)
  where
    go : (b : Bool) → filter (has_name n) (map plain_rule rs) ≡ map plain_rule (filter (has_name n) rs)
        → cond b (plain_rule r ∷ filter (has_name n) (map plain_rule rs)) (filter (has_name n) (map plain_rule rs))
        ≡ map plain_rule (cond b (r ∷ filter (has_name n) rs) (filter (has_name n) rs))
    go true e = ap (λ l. plain_rule r ∷ l) e
    go false e = e

-- the rules of a name stay the same, but for origins
pub named_plain : (g : EnabledGrammar) (n : Text) → rules_named (plain_grammar g) n ≡ map plain_rule (rules_named g n)
named_plain g n = named_among n g.rules

-- the one rule of a name is still the one of that name without origins
pub rule_plain : (g : EnabledGrammar) (n : Text) (r : EnabledRule) → IsRule g n r → IsRule (plain_grammar g) n (plain_rule r)
rule_plain g n r e = named_plain g n ∙ ap (map plain_rule) e

-- the one rule of a name of a grammar without origins comes from the one of the grammar with them
pub plain_was : (g : EnabledGrammar) (n : Text) (q : EnabledRule) → IsRule (plain_grammar g) n q
    → (r : EnabledRule) × IsRule g n r × (plain_rule r ≡ q)
plain_was g n q e = only_of_map plain_rule (rules_named g n) q (sym (named_plain g n) ∙ e)

abbrev plain_meaning : Meaning → Meaning
plain_meaning (Meaning.rule r) = Meaning.rule (plain_rule r)
plain_meaning Meaning.terminal = Meaning.terminal
plain_meaning Meaning.unclear = Meaning.unclear

meaning_in_plain : (rs : List EnabledRule) (b : Bool) → name_meaning_in (map plain_rule rs) b ≡ plain_meaning (name_meaning_in rs b)
meaning_in_plain [] true = refl
meaning_in_plain [] false = refl
meaning_in_plain (r ∷ []) b = refl
meaning_in_plain (r ∷ s ∷ rs) b = refl

meaning_plain : (g : EnabledGrammar) (n : Text) → name_meaning (plain_grammar g) n ≡ plain_meaning (name_meaning g n)
meaning_plain g n = ap (λ l. name_meaning_in l (has_text n g.bares)) (named_plain g n)
    ∙ meaning_in_plain (rules_named g n) (has_text n g.bares)

-- closing

module _ (g : EnabledGrammar) (b : Binding) (o : Text) (one two : ℕ → Option ℕ) (same : (k : ℕ) → one k ≡ two k) where
  abbrev here : Scope
  here = record { grammar = g; binding = b; owner = o; level_at = one }

  abbrev there : Scope
  there = record { grammar = plain_grammar g; binding = b; owner = o; level_at = two }

  level_alike : (k : ℕ) (n : Text) (r : EnabledRule)
      → (if bytes_eq n o then one k else loosest r) ≡ (if bytes_eq n o then two k else loosest (plain_rule r))
  level_alike k n r =
      ap (λ l. if bytes_eq n o then l else loosest r) (same k)
      ∙ ap (λ l. if bytes_eq n o then two k else l) (sym (loosest_plain r))

  name_alike : (k : ℕ) (n : Text) (m : Meaning) → plain_name here k n m ≡ plain_name there k n (plain_meaning m)
  name_alike k n (Meaning.rule r) = ap (λ l. if_plain r.parameters (Closed.call n Closeds.none l)) (level_alike k n r)
  name_alike k n Meaning.terminal = refl
  name_alike k n Meaning.unclear = refl

  call_alike : (k : ℕ) (n : Text) (args : Closeds) (m : Meaning)
      → plain_call here k n args m ≡ plain_call there k n args (plain_meaning m)
  call_alike k n args (Meaning.rule r) = ap (λ l. if_macro r.parameters args (Closed.call n args l)) (level_alike k n r)
  call_alike k n args Meaning.terminal = refl
  call_alike k n args Meaning.unclear = refl

  name_same : (k : ℕ) (n : Text) → plain_name here k n (name_meaning g n) ≡ plain_name there k n (name_meaning (plain_grammar g) n)
  name_same k n = name_alike k n (name_meaning g n) ∙ ap (plain_name there k n) (sym (meaning_plain g n))

  call_same : (k : ℕ) (n : Text) (args : Closeds)
      → plain_call here k n args (name_meaning g n) ≡ plain_call there k n args (name_meaning (plain_grammar g) n)
  call_same k n args = call_alike k n args (name_meaning g n) ∙ ap (plain_call there k n args) (sym (meaning_plain g n))

  term_same : (t : Terminal) → close_terminal g t ≡ close_terminal (plain_grammar g) t
  term_same (Terminal.quoted t) = refl
  term_same (Terminal.regex t) = refl
  term_same (Terminal.bare n) = refl
  term_same Terminal.error = refl

  mutual
    pub close_same : (k : ℕ) (x : WrittenSymbol) → close here k x ≡ close there k x
    close_same k (Sym.expr p xs) = ap Closed.group (close_all_same k xs)
    close_same k (Sym.ambiguous_id p n) = ap (name_or (parameter_value b n)) (name_same k n)
    close_same k (Sym.nonterminal p n) = name_same k n
    close_same k (Sym.terminal p t) = term_same t
    close_same k (Sym.macro p n args) =
        ap (name_or (option_map (λ c. Closed.faulty) (parameter_value b n)))
        (ap (λ cs. plain_call here k n cs (name_meaning g n)) (close_all_same (k + names_owner b o n) args)
        ∙ call_same k n (close_all there (k + names_owner b o n) args))
    close_same k (Sym.repeat p op x) = ap (Closed.repeat op) (close_same k x)
    close_same k (Sym.choose p x) = ap Closed.choose (close_same k x)
    close_same k (Sym.name p m n x) = ap (Closed.name m n) (close_same k x)
    close_same k (Sym.lookahead p) = refl
    close_same k (Sym.lookbehind p) = refl
    close_same k (Sym.error p) = refl

    close_all_same : (k : ℕ) (xs : Syms TextSpan) → close_all here k xs ≡ close_all there k xs
    close_all_same k Syms.none = refl
    close_all_same k (Syms.more x xs) =
        ap (λ c. Closeds.more c (close_all here (k + occurrences b o x) xs)) (close_same k x)
        ∙ ap (λ cs. Closeds.more (close there k x) cs) (close_all_same (k + occurrences b o x) xs)

  pub close_list_same : (k : ℕ) (xs : List WrittenSymbol) → close_list here k xs ≡ close_list there k xs
  close_list_same k [] = refl
  close_list_same k (x ∷ xs) =
      ap (λ c. sound_or_faulty c ∷ close_list here (k + occurrences b o x) xs) (close_same k x)
      ∙ ap (λ cs. sound_or_faulty (close there k x) ∷ cs) (close_list_same (k + occurrences b o x) xs)

-- right sides don't depend on origins
pub side_plain : (g : EnabledGrammar) (r : EnabledRule) (b : Binding) (p : Choice × Option Rank)
    → right_side g r b p ≡ right_side (plain_grammar g) (plain_rule r) b (plain_pair p)
side_plain g r b p =
    close_list_same g b r.name (allowed_level r p.1 (occurrences_in b r.name (syms p.0.expr)))
    (allowed_level (plain_rule r) p.1 (occurrences_in b r.name (syms p.0.expr)))
    (λ k. sym (allowed_plain r p.1 (occurrences_in b r.name (syms p.0.expr)) k)) 0 p.0.expr
