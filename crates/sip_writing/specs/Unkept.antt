-- Requests of which nothing is kept.
use Rattle.sip_uri.specs.declared.uri.NameAddr.{NameAddr}
use Rattle.sip_message.specs.declared.message.Parts.{Parts}
use Rattle.sip_message.specs.declared.message.Request.{Request}
use Rattle.sip_writing.specs.declared.unkept.EndName.{EndName}
use Rattle.sip_writing.specs.declared.unkept.Unkept.{Unkept}
use Rattle.sip_writing.specs.Requests.{name_with_tag, parts_with_names, request_with}

-- From or To of an end (RFC 3261 section 12.2.1.1)
abbrev pub end_name : EndName → NameAddr
end_name e = name_with_tag e.display.now e.uri.now e.tag.now

abbrev pub unkept_parts : Unkept → Parts
unkept_parts u = parts_with_names u.via.now (end_name u.from) (end_name u.to) u.call_id.now u.number u.method.now

unfoldable pub unkept_request : Unkept → Request
unkept_request u = request_with u.method.now u.uri.now (unkept_parts u) u.max_forwards u.further.now u.body.now
