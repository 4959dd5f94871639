-- The parts of a header field of the written form.
use Rattle.std.proofs.Common.{◌≡◌, true, ◌&&◌}
use Rattle.std.specs.Prelude.{nat_eq}
use Rattle.std.specs.Cmp.Lexicographic.{pointwise, bytes_decides}
use Rattle.std.proofs.lemmas.Bool.{and_parts, and_from}
use Rattle.text.specs.Class.{is_token_byte, is_run_of}
use Rattle.text.specs.Trim.{trimmed}
use Rattle.header_fields.specs.Lines.{is_clean}
use Rattle.sip_message.specs.HeaderNames.{long_name}
use Rattle.sip_message.specs.Written.{is_written}
use Rattle.header_fields.specs.declared.headers.Header.{Header}
use Rattle.sip_message.proofs.ValueLaws.{text_same}

pub record Written (h : Header) : Type 0 where
  pub token : is_run_of is_token_byte h.name ≡ true
  pub long : long_name h.name ≡ h.name
  pub clean : is_clean h.value ≡ true
  pub trim : trimmed h.value ≡ h.value

pub written_is : (h : Header) → is_written h ≡ true → Written h
unfolding is_written
written_is h e =
    let token = is_run_of is_token_byte h.name in
    let long = pointwise nat_eq (long_name h.name) h.name in
    let clean = is_clean h.value in
    let a = and_parts (token && long && clean) (pointwise nat_eq (trimmed h.value) h.value) e in
    let b = and_parts (token && long) clean a.0 in
    let c = and_parts token long b.0 in
    record { token = c.0; long = (bytes_decides (long_name h.name) h.name).0 c.1; clean = b.1; trim = (bytes_decides (trimmed h.value) h.value).0 a.1 }

pub is_written_from : (h : Header) → Written h → is_written h ≡ true
unfolding is_written
is_written_from h w =
    let token = is_run_of is_token_byte h.name in
    let long = pointwise nat_eq (long_name h.name) h.name in
    let clean = is_clean h.value in
    let c = and_from token long w.token (text_same (long_name h.name) h.name w.long) in
    let b = and_from (token && long) clean c w.clean in
    and_from (token && long && clean) (pointwise nat_eq (trimmed h.value) h.value) b (text_same (trimmed h.value) h.value w.trim)
