-- A request that no call takes moves no call of the trace, whatever the server answers by itself.
use Rattle.std.proofs.Common.{◌≡◌, ℕ, List, Option, Some, Ok}
use Rattle.sip_message.specs.AnswerableParts.{answerable_of}
use Rattle.sip_message.specs.Read.{message_of}
use Rattle.sip_message.specs.declared.message.Message.TheVariants as Kinds
use Rattle.sip_message.specs.declared.message.Parts.{Parts}
use Rattle.sip_message.specs.declared.message.Request.{Request}
use Rattle.transactions.specs.declared.change.Entry.{Entry}
use Rattle.call_media.specs.declared.end.End.{End}
use Rattle.call_rules.specs.Requests.{dialog_rule}
use Rattle.call_rules.specs.DialogRule as dialogrules
use Rattle.plans.specs.Office.{Office}
use Rattle.plans.specs.CallRows.{okay_plan}
use Rattle.plans.specs.Replies.{refuses_for, reply_row}
use Rattle.plans.specs.declared.reason.Reason.{Reason}
use Rattle.plans.specs.declared.reason.Reason.TheVariants as reasons
use Rattle.plans.specs.declared.rule.Reply.{Reply}
use Rattle.plans.specs.declared.setting.Setting.{Setting}
use Rattle.event_rows.specs.Rule as rules
use Rattle.event_rows.specs.Rows.{refuses_alone}
use Rattle.event_rows.specs.Rules.{request_rule}
use Rattle.call_trace.specs.declared.call.Call.{Call}
use Rattle.call_trace.specs.declared.datagram.Datagram.{Datagram}
use Rattle.call_trace.specs.declared.datagram.Message.{Message}
use Rattle.call_trace.specs.Messages.{offering}
use Rattle.call_trace.specs.Moves.{Move}
use Rattle.message_laws.specs.Addresses.{IsSource}
use Rattle.message_laws.proofs.Messages.Answerable.{can_answer}
use Rattle.message_laws.proofs.TokenUse.Grounds.{answerable_repeats, read_repeats}
use Rattle.message_laws.proofs.QuietEvents.QuietRules.{alone_quiet, plain_other}
use Rattle.message_laws.proofs.Messages.ReadParts.{same_method}
use Rattle.message_laws.proofs.StandingCalls.Reading.{Reading as ReadsNames}
use Rattle.message_laws.proofs.Messages.Repeats.{CanAnswer}
use Rattle.message_laws.proofs.Messages.RequestViews.{alone_fits}
use Rattle.message_laws.specs.Comings.{KnowsScenes}
use Rattle.message_laws.proofs.SentTexts.Registered.{answer_bound}
use Rattle.message_laws.specs.Messages.{AreMessages, IsTakenOf}
use Rattle.media_laws.proofs.Scenes.Reading.{Reading}
use Rattle.media_laws.proofs.Scenes.QuietSends.{plain_move}
use Rattle.media_laws.proofs.Scenes.ReadTexts.{answerable_taken, request_taken}
use Rattle.media_laws.proofs.Scenes.Replies.{okay_says, refuses_says, reply_says, stateless_says}

-- ---- a request that was read

module _ (r : Reading) (t : List Datagram) (ds : List Call) (taken : Option Message) (bytes : List ℕ) (ms : List Message) (took : IsTakenOf bytes taken) (s : Office) (e : Setting) (from : IsSource e.source) where
  -- one that can't be read, and one with another branch
  pub unreadable_move : (parts : Parts) (reason : Reason) → answerable_of bytes ≡ Some parts → AreMessages (refuses_alone e parts reason).sends ms → Move offering t ds taken ms ds
  unreadable_move parts reason can are =
      plain_move t ds taken r (refuses_alone e parts reason).sends ms (answerable_taken bytes parts taken can took) (stateless_says e parts reason from (answerable_repeats bytes parts can)) are

  module _ (q : Request) (read : message_of bytes ≡ Ok (Kinds.Request q)) where
    pub unfit_branched_move : AreMessages (refuses_alone e q.parts reasons.NoBranch).sends ms → Move offering t ds taken ms ds
    unfit_branched_move are =
        plain_move t ds taken r (refuses_alone e q.parts reasons.NoBranch).sends ms (request_taken bytes q taken read took) (stateless_says e q.parts reasons.NoBranch from (read_repeats bytes (Kinds.Request q) read)) are

    module _ (k : KnowsScenes s) (begun : List Entry) (id : ℕ) where
      can : CanAnswer s e q
      can = can_answer bytes s e q read from k.few

      pub replied_move : ReadsNames → (reply : Reply) → request_rule s q e.now ≡ rules.Alone reply → AreMessages (reply_row s e q begun id reply).sends ms → Move offering t ds taken ms ds
      replied_move names reply is are =
          plain_move t ds taken r (reply_row s e q begun id reply).sends ms (request_taken bytes q taken read took)
          (reply_says s e q begun id reply can k.askers.least (answer_bound names s e q begun id k.dialogs.bindings) (alone_fits s q e.now reply is) (alone_quiet s q e.now reply (same_method bytes q read) is)) are

      -- a first INVITE, or a request in a dialog
      pub refused_move : (reason : Reason) → AreMessages (refuses_for s e q begun id reason).sends ms → Move offering t ds taken ms ds
      refused_move reason are = plain_move t ds taken r (refuses_for s e q begun id reason).sends ms (request_taken bytes q taken read took) (refuses_says s e q begun id reason can k.askers.least) are

      pub refreshed_move : (place : ℕ) (end : End) → dialog_rule s.calls.calls q ≡ dialogrules.Plain place end → AreMessages (okay_plan s e q begun id).sends ms → Move offering t ds taken ms ds
      refreshed_move place end is are =
          plain_move t ds taken r (okay_plan s e q begun id).sends ms (request_taken bytes q taken read took)
          (okay_says s e q begun id can k.askers.server (plain_other s.calls.calls q place end is)) are
