-- Dialogs that begin (RFC 3261 section 12.1).
use Rattle.std.specs.Prelude.{ℕ, ◌==◌, Bool, nat_eq, List, [], ◌∷◌, codes, length, Option, Some, None, if◌then◌else◌}
use Rattle.std.specs.Cmp.Lexicographic.{pointwise}
use Rattle.sip_uri.specs.declared.uri.NameAddr.{NameAddr}
use Rattle.sip_uri.specs.declared.uri.Uri.{Uri}
use Rattle.sip_message.specs.declared.contact.ContactValue.{ContactValue}
use Rattle.sip_message.specs.declared.contact.ContactValue.TheVariants.{Star, Address, Unreadable}
use Rattle.sip_message.specs.declared.message.Parts.{Parts}
use Rattle.sip_message.specs.declared.message.Request.{Request}
use Rattle.sip_message.specs.declared.message.Response.{Response}
use Rattle.dialogs.specs.declared.state.Dialog.{Dialog}
use Rattle.dialogs.specs.declared.state.Party.{Party}
use Rattle.sip_message.specs.Words.{tag_text}

-- an INVITE, or a response to one
abbrev pub is_invite : Parts → Bool
is_invite parts = pointwise nat_eq parts.cseq.method (codes "INVITE")

-- the URI of the one Contact address, at which the sender is reached
abbrev pub reached_at : List ContactValue → Option Uri
reached_at [] = None
reached_at (Star ∷ more) = None
reached_at (Unreadable ∷ more) = None
reached_at (Address name ∷ []) = Some name.uri
reached_at (Address name ∷ other ∷ more) = None

-- an end without its tag
abbrev pub party_named : NameAddr → Party
party_named name = record { display = name.display; uri = name.uri }

-- the tag of the server's responses to an INVITE: that of its To where it has one, and else the given one (section
-- 8.2.6.2)
abbrev pub own_tag : Request → List ℕ → List ℕ
own_tag invite tag = if length (tag_text invite.parts.to.params) == 0 then tag else tag_text invite.parts.to.params

-- with the sender of an INVITE (section 12.1.1): To is ours and has our tag in the response, From is theirs, and their
-- number counts
abbrev pub callees_dialog : Request → List ℕ → Uri → Dialog
callees_dialog invite tag target = record {
  id = record { call_id = invite.parts.call_id; ours = own_tag invite tag; theirs = tag_text invite.parts.from.params };
  ours = party_named invite.parts.to;
  theirs = party_named invite.parts.from;
  target = target;
  local_number = None;
  remote_number = Some invite.parts.cseq.number;
}

-- with the sender of a 2xx to our INVITE (section 12.1.2): From is ours, To is theirs and has their tag in the
-- response, and our number counts
abbrev pub callers_dialog : Parts → Response → Uri → Dialog
callers_dialog invite response target = record {
  id = record { call_id = invite.call_id; ours = tag_text invite.from.params; theirs = tag_text response.parts.to.params };
  ours = party_named invite.from;
  theirs = party_named invite.to;
  target = target;
  local_number = Some invite.cseq.number;
  remote_number = None;
}
