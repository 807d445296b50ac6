-- Why a grammar is refused, as a fault that stands in it; for refusals as replies.
use Rattle.std.proofs.Common.{◌≡◌, ◌≢◌, ◌⊎◌, Bool, true, false, ap, if◌then◌else◌, inl, inr, refl, subst, sym}
use Rattle.lalrpop_grammar_symbols.specs.Symbols.{TextSpan}
use Rattle.lalrpop_grammar_symbols.specs.Views.{span_view}
use Rattle.lalrpop_grammar_symbols.specs.declared.span.Span.{Span}
use Rattle.lalrpop_grammar.specs.WrittenGrammar as written
use Rattle.lalrpop_grammar.specs.Views.{grammar_view}
use Rattle.lalrpop_grammar.specs.declared.grammar.Grammar.{Grammar}
use Rattle.lalrpop_grammar_repr.specs.declared.norm_error.NormError.{NormError}
use Rattle.lalrpop_lr1_inline.specs.InlineFaults.{IsInlineCycle}
use Rattle.lalrpop_lr1_inline.specs.InlinedGrammars.{IsTooManyNumbers}
use Rattle.lalrpop_run_prepare.specs.InlineRefusals.{is_too_many, told_at}
use Rattle.lalrpop_run_prepare.specs.PrepareRefusals.{IsInlinable, IsInlineRefusal, IsPrepareRefusal}
use Rattle.lalrpop_run_prepare.specs.Refused.{IsGenerable, IsGrammarRefusal, IsStartRefusal, IsUncarried}
use Rattle.lalrpop_run_prepare.specs.declared.refusals.refusing.GenerateError.{GenerateError}
use Rattle.lalrpop_run_prepare.specs.declared.refusals.refusing.GenerateError.TheVariants as errors
use Rattle.lalrpop_run.specs.Asked.{Asked, Refusal}
use Rattle.lalrpop_run.specs.InlineCycles.{IsCycleFault}
use Rattle.lalrpop_run.specs.ListedFaults.{IsInliningFault, IsListedFault, MayBeInlined}
use Rattle.lalrpop_run.specs.Parsers.{IsNoParserReply, IsRefusedFor, SaysRefusal}
use Rattle.lalrpop_run.specs.Questions.{Question, asked_of}
use Rattle.lalrpop_run.proofs.InlineCycleLemmas.{acyclic_ordered, cycle_told}
use Rattle.lalrpop_run.proofs.InliningNumberLemmas.{enough_told, too_many_told}
use Rattle.lalrpop_run.specs.declared.replies.reply.Reply.{Reply}
use Rattle.lalrpop_run.specs.declared.replies.reply.Reply.TheVariants as replies

-- a place that is one of two is told as one of two
place_told : (b : Bool) (whole own : Span) (p : TextSpan) → span_view whole ≡ p
    → span_view (if b then whole else own) ≡ (if b then p else span_view own)
place_told true whole own p h = h
place_told false whole own p h = refl

module _ (q : Asked) (w : written.Grammar) where
  -- a fault that stands is said
  abbrev Says : GenerateError → Type 0
  Says error = (f : Refusal) × IsListedFault q w f × SaysRefusal f error

  uncarried : (error : GenerateError) → IsUncarried q.finds q.features w error → Says error
  uncarried error (IsUncarried.extern_block has is) = (Refusal.extern_block, IsListedFault.extern_block has, is)
  uncarried error (IsUncarried.recovery none has is) = (Refusal.recovery, IsListedFault.recovery none has, is)

  before : (error : GenerateError) → error ≢ errors.Memory
      → IsGrammarRefusal q.finds q.deep q.features q.macro_limit q.start w error → Says error
  before error some (IsGrammarRefusal.uncarried h) = uncarried error h
  before error some (IsGrammarRefusal.fault told carried stands is) = (
    Refusal.fault told.kind (span_view told.span),
    IsListedFault.passes told.kind (span_view told.span) carried stands,
    (told, refl, refl, is),
  )
  before error some (IsGrammarRefusal.condition_limit carried may is) =
      (Refusal.condition_limit, IsListedFault.condition_limit carried may.0 may.1, is)
  before error some (IsGrammarRefusal.start carried none (IsStartRefusal.unknown known is)) =
      (Refusal.unknown_start q.start, IsListedFault.unknown_start carried none known, is)
  before error some (IsGrammarRefusal.start carried none (IsStartRefusal.private known public is)) =
      (Refusal.private_start q.start, IsListedFault.private_start carried none known public, is)
  before error some (IsGrammarRefusal.memory is) = absurd (some is)

  -- what can be inlined may be inlined
  pub may_be_inlined : IsInlinable q.finds q.features w → MayBeInlined q w
  may_be_inlined h = record {
    acyclic = acyclic_ordered q.finds q.features w h.lowered h.normalized h.named h.inlined.order h.inlined.is_order;
    numbers = enough_told q.finds q.features w h.lowered h.normalized h.named h.inlined.order h.inlined.is_order h.inlined.numbers;
  }

  inlining_stands : (error : GenerateError) (h : IsInlineRefusal q.finds q.features w error)
      → IsInlineCycle h.lowered.grammar.nonterminals h.told ⊎ IsTooManyNumbers h.lowered.grammar h.told
      → IsInliningFault q w h.told.kind (if is_too_many h.told.kind then w.span else span_view h.told.span)
  inlining_stands error h (inl c) =
      let fault = cycle_told q.finds q.features w h.lowered h.normalized h.named h.told c in
      IsInliningFault.cycle
      (subst (λ b. IsCycleFault q.finds q.features w h.told.kind (if b then w.span else span_view h.told.span))
      (sym (ap is_too_many fault.kind_is)) fault)
  inlining_stands error h (inr m) =
      IsInliningFault.too_many
      (too_many_told q.finds q.features w h.lowered h.normalized h.named h.told m)
      (ap (λ (e : NormError). e.kind) m.error_is)
      (ap (λ (e : NormError). if is_too_many e.kind then w.span else span_view e.span) m.error_is)

  inlining : (error : GenerateError) → IsGenerable q.finds q.deep q.features q.macro_limit q.start w
      → IsInlineRefusal q.finds q.features w error → Says error
  inlining error generable h =
      let place = if is_too_many h.told.kind then w.span else span_view h.told.span in (
        Refusal.fault h.told.kind place,
        IsListedFault.inlining h.told.kind place generable (inlining_stands error h h.stands),
        (told_at h.whole h.told, refl, place_told (is_too_many h.told.kind) h.whole h.told.span w.span h.whole_is, h.error_is),
      )

  pub refusal_listed : (error : GenerateError) → error ≢ errors.Memory
      → IsPrepareRefusal q.finds q.deep q.features q.macro_limit q.start w error → Says error
  refusal_listed error some (IsPrepareRefusal.before h) = before error some h
  refusal_listed error some (IsPrepareRefusal.inlining generable h) = inlining error generable h
  refusal_listed error some (IsPrepareRefusal.barren name generable inlinable least is) =
      (Refusal.barren name, IsListedFault.barren name generable (may_be_inlined inlinable) least, is)

-- a refusal that is replied tells why there is no parser
pub refused_reply : (q : Question) (g : Grammar) (error : GenerateError) (reply : Reply) → error ≢ errors.Memory
    → IsRefusedFor q (grammar_view g) error → reply ≡ replies.Refused error → IsNoParserReply q g reply
refused_reply q g error reply some refused is =
    let h = refusal_listed (asked_of q) (grammar_view g) error some refused in
    IsNoParserReply.refused h.0 h.1 (error, h.2, is)
