-- Requests whose parts are at hand.
use Rattle.sip_message.specs.declared.message.Request.{Request}
use Rattle.sip_writing.specs.declared.request_text.Outline.{Outline}
use Rattle.sip_writing.specs.Requests.{request_with}

unfoldable pub outlined : Outline → Request
outlined o = request_with o.method.now o.uri.now o.parts.now o.max_forwards o.further.now o.body.now
