use Rattle.std.proofs.Common.{◌≡◌, ◌∙◌, ℕ, List, true, codes, refl, ap}
use Rattle.sip_uri.specs.declared.uri.Addr.{Addr}
use Rattle.sip_message.specs.declared.message.Message.TheVariants as Kinds
use Rattle.sip_message.specs.Words.{is_method}
use Rattle.sip_writing.specs.Writing.{message_text}
use Rattle.dialogs.specs.declared.state.Dialog.{Dialog}
use Rattle.dialogs.specs.Requests.{parts_in, request_in}
use Rattle.call_messages.specs.Dressing.{branch}
use Rattle.call_messages.specs.Messages.{ack}
use Rattle.call_messages.proofs.scene.Scene.says_ack.Goals as goal

to_target : (server : Addr) (d : Dialog) (token : List ℕ) → d.target ≡ (ack server d token).uri
unfolding request_in
to_target server d token = refl

is_ack : (server : Addr) (d : Dialog) (token : List ℕ) → is_method (codes "ACK") (ack server d token).parts ≡ true
unfolding request_in parts_in
is_ack server d token = refl

pub returns : goal.returns
returns c =
    let server = c.args.self.now.server in
    let d = c.in-Some.dialog.now in
    let token = branch c.args.self.now c.args.tokens in
    let bytes = c.in_ok-bytes.ensures.ack ∙ ap (λ t. message_text (Kinds.Request (ack server d t))) (c.as_bytes.ensures ∙ c.in_ok-branch.ensures) in
    rw c.in-Some.is (c.acknowledges.ensures (ack server d token) (to_target server d token) (is_ack server d token) bytes)
