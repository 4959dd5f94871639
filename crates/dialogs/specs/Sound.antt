-- A dialog of messages that were read.
use Rattle.std.specs.Prelude.{ℕ, List, IsTrue}
use Rattle.std.specs.List.{list_all}
use Rattle.text.specs.Class.{is_run_of, is_token_byte}
use Rattle.sip_uri.specs.declared.uri.Param.{Param}
use Rattle.sip_uri.specs.declared.uri.Uri.{Uri}
use Rattle.sip_uri.specs.Grammar.{ReadsUri}
use Rattle.sip_uri.specs.NameAddr.{ReadsNameAddr}
use Rattle.sip_message.specs.CallId.{is_call_id}
use Rattle.sip_message.specs.Lines.{is_clean}
use Rattle.sip_message.specs.Repeatable.{IsValue}
use Rattle.dialogs.specs.declared.state.Dialog.{Dialog}
use Rattle.dialogs.specs.declared.state.Party.{Party}

-- a URI that was read of some text
pub record IsReadUri (uri : Uri) : Type 0 where
  pub text : List ℕ
  pub reads : ReadsUri text uri

-- display and URI of a name and an address that was read in a header field
pub record IsReadParty (party : Party) : Type 0 where
  pub text : List ℕ
  pub params : List Param
  pub reads : ReadsNameAddr text (record { display = party.display; uri = party.uri; params = params })
  pub clean : IsTrue (is_clean text)

-- each of its texts came out of a message; our tag is there, theirs may be absent
pub record IsSound (d : Dialog) : Type 0 where
  pub call_id : IsTrue (is_call_id d.id.call_id)
  pub call_id_value : IsValue d.id.call_id
  pub our_tag : IsTrue (is_run_of is_token_byte d.id.ours)
  pub their_tag : IsTrue (list_all is_token_byte d.id.theirs)
  pub ours : IsReadParty d.ours
  pub theirs : IsReadParty d.theirs
  pub target : IsReadUri d.target
