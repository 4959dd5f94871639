-- Requests of the server's own.
use Rattle.sip_message.specs.declared.message.Message.TheVariants as Kinds
use Rattle.sip_message.specs.declared.message.Request.{Request}
use Rattle.sip_writing.specs.Writing.{message_text}
use Rattle.transactions.specs.declared.own_request.OwnRequest.{OwnRequest}

-- what is kept of a request, and how it is sent
abbrev pub own_of : Request → OwnRequest
own_of r = record { uri = r.uri; parts = r.parts; bytes = message_text (Kinds.Request r) }
