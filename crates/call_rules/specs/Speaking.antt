-- What the rules of calls ask of a message by its method and its status.
use Rattle.std.specs.Prelude.{◌==◌, ◌&&◌, ◌||◌, Bool, not, codes, length}
use Rattle.sip_message.specs.declared.message.Parts.{Parts}
use Rattle.sip_message.specs.declared.message.Request.{Request}
use Rattle.sip_message.specs.declared.message.Response.{Response}
use Rattle.sip_message.specs.Contact.{is_success}
use Rattle.sip_message.specs.Words.{is_method}

abbrev pub is_invite : Parts → Bool
is_invite parts = is_method (codes "INVITE") parts

abbrev pub is_update : Parts → Bool
is_update parts = is_method (codes "UPDATE") parts

abbrev pub is_bye : Parts → Bool
is_bye parts = is_method (codes "BYE") parts

-- a request by which an end can offer, of whose responses a 2xx answers (RFC 3264 section 4, RFC 3311 section 5)
abbrev pub may_offer : Parts → Bool
may_offer parts = is_invite parts || is_update parts

-- every INVITE is an offer, also one without a description; an UPDATE where it has a body
abbrev pub is_offer : Request → Bool
is_offer r = is_invite r.parts || is_update r.parts && not (length r.body == 0)

-- a 2xx to an INVITE, which each time gets its ACK (RFC 3261 section 13.2.2.4)
abbrev pub is_acknowledged : Parts → Response → Bool
is_acknowledged asked r = is_invite asked && is_success r.status
