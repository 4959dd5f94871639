-- The parts of a response are those of its request: what is written into its top Via and its To changes no other
-- parameter.
use Rattle.std.proofs.Common.{◌≡◌, ℕ, List, [], ◌∷◌, Option, refl, ap}
use Rattle.std.specs.Prelude.{unwrap_or}
use Rattle.sip_uri.specs.declared.uri.Addr.{Addr}
use Rattle.sip_uri.specs.declared.uri.Param.{Param}
use Rattle.sip_message.specs.declared.message.Parts.{Parts}
use Rattle.sip_message.specs.declared.via.Via.{Via}
use Rattle.sip_message.specs.Words.{value_found}
use Rattle.sip_writing.specs.Replies.{answered_tag, tag_of, top_branch}
use Rattle.sip_writing.specs.Reply.{marked_top, replied, reply_of, tagged_to}
use Rattle.sip_writing.proofs.RepliesLaws.{replies_by}
use Rattle.trace_reading.specs.Message.{branch_text}

text_kept : (source : Addr) (vias : List Via) → top_branch (marked_top source vias) ≡ top_branch vias → branch_text (marked_top source vias) ≡ branch_text vias
text_kept source [] kept = refl
text_kept source (via ∷ vias) kept = ap (λ (o : Option Param). unwrap_or (value_found o) []) kept

pub branch_kept : (parts : Parts) (source : Addr) (status : ℕ) (tag : List ℕ) → branch_text (marked_top source parts.vias) ≡ branch_text parts.vias
unfolding reply_of replied
branch_kept parts source status tag = text_kept source parts.vias (replies_by parts source status tag).branch

pub to_kept : (parts : Parts) (source : Addr) (status : ℕ) (tag : List ℕ) → tag_of (tagged_to status parts.to tag).params ≡ answered_tag status (tag_of parts.to.params) tag
unfolding reply_of replied
to_kept parts source status tag = (replies_by parts source status tag).to_tag
