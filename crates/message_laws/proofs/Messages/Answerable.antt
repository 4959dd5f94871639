-- A request that was read can be answered.
use Rattle.std.proofs.Common.{◌≡◌, ℕ, ◌<◌, ◌^◌, List, Ok, refl}
use Rattle.sip_message.specs.Read.{message_of}
use Rattle.sip_message.specs.declared.message.Message.TheVariants as Kinds
use Rattle.sip_message.specs.declared.message.Request.{Request}
use Rattle.plans.specs.Office.{Office}
use Rattle.plans.specs.declared.setting.Setting.{Setting}
use Rattle.message_laws.specs.Addresses.{IsSource}
use Rattle.message_laws.proofs.Askers.UnsupportedField.{unsupported_written}
use Rattle.message_laws.proofs.Messages.ReadParts.{same_method}
use Rattle.message_laws.proofs.Messages.Repeats.{CanAnswer}
use Rattle.message_laws.proofs.TokenUse.Grounds.{read_repeats}

pub can_answer : (text : List ℕ) (s : Office) (e : Setting) (r : Request) → message_of text ≡ Ok (Kinds.Request r) → IsSource e.source → s.tokens < 2 ^ 63 → CanAnswer s e r
can_answer text s e r read from few = record {
  repeats = read_repeats text (Kinds.Request r) read;
  method = same_method text r read;
  refused = record { written = unsupported_written text r read; repeats = refl; no_length = refl; no_contact = refl; no_hops = refl; no_type = refl };
  from = from;
  few = few;
}
