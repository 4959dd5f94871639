-- A message that is read is one by the grammar, and so is a name and an address.
use Rattle.std.proofs.Common.{◌≡◌, ℕ, List, Ok}
use Rattle.sip_uri.specs.NameAddr.{ReadsNameAddr, name_addr_of}
use Rattle.sip_uri.specs.declared.uri.NameAddr.{NameAddr}
use Rattle.sip_uri.proofs.NameLaws.{name_is_found}
use Rattle.sip_message.specs.Grammar.{ReadsMessage}
use Rattle.sip_message.specs.Read.{message_of}
use Rattle.sip_message.specs.declared.message.Message.{Message}
use Rattle.sip_message.proofs.MessageLaws.{found_at}

pub message_reads : (text : List ℕ) (m : Message) → message_of text ≡ Ok m → ReadsMessage text m
message_reads text m is = (found_at text (Ok m) is).0

pub name_reads : (text : List ℕ) (name : NameAddr) → name_addr_of text ≡ Ok name → ReadsNameAddr text name
name_reads text name is = name_is_found text name is
