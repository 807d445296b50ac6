-- What a name stands for, rule by rule: for the functions that make `Rules` and find names in it.
use Rattle.std.proofs.Common.{◌≡◌, Bool, true, false, cond, List, [], ◌∷◌, ◌++◌, Option, Some, None, refl, ap}
use Rattle.std.proofs.Common.{sym, ◌∙◌, map}
use Rattle.std.proofs.lemmas.List.{append-nil, append_assoc, map-append}
use Rattle.std.proofs.lemmas.List.Elements.{filter-append}
use Rattle.std.proofs.lemmas.Slice.Eq.{bytes_eq-Decides}
use Rattle.std.specs.HashMap.{get_by}
use Rattle.std.specs.Map.{update}
use Rattle.std.specs.Prelude.{filter, option_map, is_some}
use Rattle.std.specs.Str.{bytes_eq}
use Rattle.lalrpop_grammar_symbols.specs.Symbols.{Text}
use Rattle.lalrpop_grammar.specs.WrittenGrammar.{Rule}
use Rattle.lalrpop_grammar_language.specs.Enabled.{EnabledRule as PureRule, enabled_rule, has_name, is_active, has_text, rules_named}
use Rattle.lalrpop_grammar_language.specs.Closing.{name_meaning, name_meaning_in, Meaning}
use Rattle.lalrpop_grammar.specs.Views.{nonterminal_view}
use Rattle.lalrpop_grammar.specs.declared.nonterminal.NonterminalData.{NonterminalData}
use Rattle.lalrpop_grammar_symbols.specs.declared.names.NonterminalString.{NonterminalString}
use Rattle.lalrpop_grammar_rules.specs.declared.rule.EnabledRule.{EnabledRule}
use Rattle.lalrpop_grammar_rules.specs.declared.table.Rules as table
use Rattle.lalrpop_grammar_rules.specs.RuleTable.{Entries, IsOnly, rule_entry_at, rule_entry, entry_with_rules, rules_named_in, one_more}
use Rattle.lalrpop_grammar_rules.specs.RuleTable.{only_of, rules_view}
use Rattle.lalrpop_grammar_rules.specs.Details.{Kept, details, kept_rule_view}

only_of-push : (rs : List PureRule) (r : PureRule) → only_of (rs ++ r ∷ []) ≡ one_more (only_of rs) r
only_of-push [] r = refl
only_of-push (a ∷ []) r = refl
only_of-push (a ∷ b ∷ rs) r = refl

-- what a name stands for with more rules behind the others
pub only_of-append : (rs xs : List PureRule) → only_of (rs ++ xs) ≡ entry_with_rules (only_of rs) xs
only_of-append rs [] = ap only_of (append-nil rs)
only_of-append rs (x ∷ xs) =
    ap only_of (sym (append_assoc rs (x ∷ []) xs)) ∙ only_of-append (rs ++ x ∷ []) xs
    ∙ ap (λ e. entry_with_rules e xs) (only_of-push rs x)

entry_with-append : (e : Option (Option Kept)) (xs ys : List PureRule)
    → entry_with_rules e (xs ++ ys) ≡ entry_with_rules (entry_with_rules e xs) ys
entry_with-append e [] ys = refl
entry_with-append e (x ∷ xs) ys = entry_with-append (one_more e x) xs ys

named_in-append : (f : List Text) (xs ys : List Rule) (n : Text)
    → rules_named_in f (xs ++ ys) n ≡ rules_named_in f xs n ++ rules_named_in f ys n
named_in-append f xs ys n =
    let active = filter (λ (r : Rule). is_active f r.attributes) in
    ap (λ l. filter (has_name n) (map (enabled_rule f) l)) (filter-append (λ r. is_active f r.attributes) xs ys)
    ∙ ap (λ l. filter (has_name n) l) (map-append (enabled_rule f) (active xs) (active ys))
    ∙ filter-append (has_name n) (map (enabled_rule f) (active xs)) (map (enabled_rule f) (active ys))

-- one written rule more: what the name stands for with those to come stays
pub one_rule_added : (f : List Text) (before after : Entries) (left rest : List Rule) (r : Rule) (n : Text)
    → left ≡ r ∷ rest
    → rule_entry_at f after n ≡ entry_with_rules (rule_entry_at f before n) (rules_named_in f (r ∷ []) n)
    → entry_with_rules (rule_entry_at f after n) (rules_named_in f rest n)
    ≡ entry_with_rules (rule_entry_at f before n) (rules_named_in f left n)
one_rule_added f before after left rest r n is added =
    ap (λ e. entry_with_rules e (rules_named_in f rest n)) added
    ∙ sym (entry_with-append (rule_entry_at f before n) (rules_named_in f (r ∷ []) n) (rules_named_in f rest n))
    ∙ ap (entry_with_rules (rule_entry_at f before n)) (sym (named_in-append f (r ∷ []) rest n))
    ∙ ap (λ l. entry_with_rules (rule_entry_at f before n) (rules_named_in f l n)) (sym is)

-- a name that stands for a rule stands for it alone
pub only_some : (rs : List PureRule) (p : Kept) → only_of rs ≡ Some (Some p) → (rs ≡ p.0 ∷ []) × (p ≡ details p.0)
only_some [] p e = absurd (cc)
only_some (r ∷ []) p e =
    let same : details r ≡ p = cc in
    (ap (λ q. q.0 ∷ []) same, sym same ∙ ap (λ q. details q.0) same)
only_some (r ∷ s ∷ rs) p e = absurd (cc)

several_unclear : (rs : List PureRule) (b : Bool) → only_of rs ≡ Some None → name_meaning_in rs b ≡ Meaning.unclear
several_unclear [] b e = absurd (cc)
several_unclear (r ∷ []) b e = absurd (cc)
several_unclear (r ∷ s ∷ rs) b e = refl

none_named : (rs : List PureRule) → only_of rs ≡ None → rs ≡ []
none_named [] e = refl
none_named (r ∷ []) e = absurd (cc)
none_named (r ∷ s ∷ rs) e = absurd (cc)

module _ (t : table.Rules) (n : Text) (made : rule_entry_at t.features.now t.by_name n ≡ only_of (rules_named (rules_view t) n)) where
  abbrev seen : Option (Option EnabledRule) → Option (Option Kept)
  seen = option_map (option_map (kept_rule_view t.features.now))

  -- a rule that is found by the name is the only one of it
  pub found_rule : (r : EnabledRule) → get_by (λ k. bytes_eq n k.now) t.by_name ≡ Some (Some r) → IsOnly t n r
  found_rule r at =
      let p = only_some (rules_named (rules_view t) n) (kept_rule_view t.features.now r) (sym made ∙ ap seen at) in (p.0, p.1)

  -- a name that several rules have is unclear
  pub found_several : get_by (λ k. bytes_eq n k.now) t.by_name ≡ Some None → name_meaning (rules_view t) n ≡ Meaning.unclear
  found_several at = several_unclear (rules_named (rules_view t) n) (has_text n (rules_view t).bares) (sym made ∙ ap seen at)

  -- a name that no rule has stands for a terminal where it is mapped, and is else unclear
  pub found_nothing : get_by (λ k. bytes_eq n k.now) t.by_name ≡ None → (b : Bool) → has_text n (rules_view t).bares ≡ b
      → name_meaning (rules_view t) n ≡ name_meaning_in [] b
  found_nothing at b is =
      ap (λ rs. name_meaning_in rs (has_text n (rules_view t).bares)) (none_named (rules_named (rules_view t) n) (sym made ∙ ap seen at))
      ∙ ap (name_meaning_in []) is

module _ (f : List Text) (before after : Entries) (d : NonterminalData) (entry : Option EnabledRule) where
  abbrev name : Text
  name = d.name.0

  abbrev rule : PureRule
  rule = enabled_rule f (nonterminal_view d)

  entries-cond : (b : Bool) (x y : Option (Option EnabledRule))
      → option_map (option_map (kept_rule_view f)) (cond b x y)
      ≡ cond b (option_map (option_map (kept_rule_view f)) x) (option_map (option_map (kept_rule_view f)) y)
  entries-cond true x y = refl
  entries-cond false x y = refl

  at_name : (n : Text) (b : Bool) → bytes_eq name n ≡ b
      → Some (option_map (kept_rule_view f) entry) ≡ one_more (rule_entry_at f before name) rule
      → cond b (Some (option_map (kept_rule_view f) entry)) (rule_entry_at f before n)
      ≡ cond b (one_more (rule_entry_at f before n) rule) (rule_entry_at f before n)
  at_name n true e is =
      let same : name ≡ n = (bytes_eq-Decides name n).0 e in
      is ∙ ap (λ m. one_more (rule_entry_at f before m) rule) same
  at_name n false e is = refl

  -- what stands for each name once the entry stands for the rule's
  pub one_rule_more : ((n : Text)
      → get_by (λ k. bytes_eq n k.now) after ≡ update bytes_eq (λ m. get_by (λ k. bytes_eq m k.now) before) name (Some entry) n)
      → Some (option_map (kept_rule_view f) entry) ≡ one_more (rule_entry_at f before name) rule
      → (n : Text) → rule_entry_at f after n
      ≡ cond (bytes_eq name n) (one_more (rule_entry_at f before n) rule) (rule_entry_at f before n)
  one_rule_more new is n =
      ap (option_map (option_map (kept_rule_view f))) (new n)
      ∙ entries-cond (bytes_eq name n) (Some entry) (get_by (λ k. bytes_eq n k.now) before)
      ∙ at_name n (bytes_eq name n) refl is

-- a name that stood for something stands for no rule with one more, and else for the new one
pub entry_more : (f : List Text) (x : Option (Option EnabledRule)) (r : PureRule) (b : Bool) → b ≡ is_some x
    → Some (rule_entry b r) ≡ one_more (option_map (option_map (kept_rule_view f)) x) r
entry_more f None r true e = absurd (cc)
entry_more f None r false e = refl
entry_more f (Some x) r true e = refl
entry_more f (Some x) r false e = absurd (cc)

-- parameters are none where none are written
pub names_none : (ns : List NonterminalString) → map (λ n. n.0) ns ≡ [] → ns ≡ []
names_none [] e = refl
names_none (n ∷ ns) e = absurd (cc)
