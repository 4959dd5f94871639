-- A Via that was read, or that got the source, is read again from what is written for it.
use Rattle.std.proofs.Common.{◌≡◌, ℕ, Bool, true, false, not, ◌&&◌, cond, eqb, List, [], ◌∷◌, ◌++◌, length, Option, Some, None, refl, sym, ap, subst, ◌∙◌, append_assoc, codes}
use Rattle.std.specs.Prelude.{option_map, nat_lt, unwrap_or}
use Rattle.std.specs.Char.{is_ascii_digit}
use Rattle.std.specs.List.{list_all, AllByRecursion}
use Rattle.std.proofs.lemmas.Bool.{and_parts}
use Rattle.std.proofs.lemmas.List.{append-nil}
use Rattle.text.specs.Class.{is_run_of, passes_if_there}
use Rattle.text.specs.Cut.{before, after, led_by, behind_word}
use Rattle.text.specs.Number.{number_upto}
use Rattle.text.specs.Pieces.{pieces}
use Rattle.text.specs.Trim.{without_blanks, trimmed}
use Rattle.text.specs.declared.split.Within.TheVariants.{Nothing}
use Rattle.text.proofs.CutLaws.{Lacks, Lacks-from_class, Lacks-append, before_at, after_at}
use Rattle.sip_uri.specs.declared.uri.Host.{Host}
use Rattle.sip_uri.specs.declared.uri.Param.{Param}
use Rattle.sip_uri.specs.FieldParams.{field_params_read}
use Rattle.sip_uri.specs.Hosts.{ip4_of, is_hostname, is_host}
use Rattle.sip_uri.specs.Reading.{host_of, host_read}
use Rattle.sip_uri.proofs.BlankLaws.{trimmed_again}
use Rattle.sip_uri.proofs.Closed.{IsClosed, closed_append, closed_plain, closed_class}
use Rattle.sip_uri.proofs.FieldTrip.{written}
use Rattle.sip_uri.proofs.HostLaws.{host_lacks}
use Rattle.sip_uri.proofs.NameLaws.{field_params_again}
use Rattle.sip_message.specs.declared.via.Via.{Via}
use Rattle.sip_message.specs.Lines.{is_clean}
use Rattle.sip_message.specs.Via.{RawVia, behind, raw_via_of, is_port, is_raw_via, sent_by_of, port_of, made, with_host, via_of}
use Rattle.sip_message.specs.Repeatable.{IsValue}
use Rattle.sip_writing.specs.Reply.{via_text}
use Rattle.sip_message.proofs.CleanLaws.{clean_after, clean_led_by, Ends, ends_trimmed, ends_behind}
use Rattle.sip_writing.proofs.MessageRoundTrip.{digits_token}
use Rattle.sip_writing.proofs.ParamTrip.{IsParam, params_sound, params_again, behind_semicolons, params_clean, params_closed, params_end}
use Rattle.sip_writing.proofs.StartTexts.{clean_from_lacks}
use Rattle.sip_message.proofs.ValueLaws.{trim_same, end_behind, token_clean, token_trimmed, clean_joined}

-- a Via whose parts can be written
pub record IsVia (via : Via) : Type 0 where
  pub host : List ℕ
  pub port : Option (List ℕ)
  pub sent_by : via.sent_by ≡ sent_by_of host port
  pub reads : host_read host ≡ Some via.host
  pub host_ends : trimmed host ≡ host
  pub port_form : passes_if_there is_port port ≡ true
  pub port_ends : option_map trimmed port ≡ port
  pub value : via.port ≡ port_of port
  pub params : AllByRecursion IsParam via.params

-- ---- what was read

host_trimmed : (text : List ℕ) → trimmed (raw_via_of text).host ≡ (raw_via_of text).host
unfolding raw_via_of
host_trimmed text = trimmed_again (before 58 (behind_word (without_blanks (behind 47 (behind 47 (before 59 text))))))

port_trimmed : (text : List ℕ) → option_map trimmed (raw_via_of text).port ≡ (raw_via_of text).port
unfolding raw_via_of
port_trimmed text = again (after 58 (behind_word (without_blanks (behind 47 (behind 47 (before 59 text)))))) where
  again : (o : Option (List ℕ)) → option_map trimmed (option_map trimmed o) ≡ option_map trimmed o
  again None = refl
  again (Some t) = ap (λ (x : List ℕ). Some x) (trimmed_again t)

params_part_clean : (text : List ℕ) → is_clean text ≡ true → passes_if_there is_clean (raw_via_of text).params ≡ true
unfolding raw_via_of
params_part_clean text h = clean_after 59 text h

port_formed : (r : RawVia) → is_raw_via r ≡ true → passes_if_there is_port r.port ≡ true
unfolding is_raw_via
port_formed r h = (and_parts _ (passes_if_there is_port r.port) h).1

pub via_is : (text : List ℕ) (via : Via) → via_of text ≡ Some via → is_clean text ≡ true → IsVia via
unfolding via_of
via_is text via h clean = let r = raw_via_of text in step (is_raw_via r) (host_read r.host) (field_params_read r.params) refl refl refl h where
  step : (f : Bool) (g : Option Host) (k : Option (List Param)) → is_raw_via (raw_via_of text) ≡ f → host_read (raw_via_of text).host ≡ g → field_params_read (raw_via_of text).params ≡ k
      → cond f (with_host (raw_via_of text) g k) None ≡ Some via → IsVia via
  step false g k form host params e = absurd cc
  step true None k form host params e = absurd cc
  step true (Some x) None form host params e = absurd cc
  step true (Some x) (Some ps) form host params e =
      let same : made (raw_via_of text) x ps ≡ via = cc in
      subst (λ (v : Via). IsVia v) same (record {
        host = (raw_via_of text).host;
        port = (raw_via_of text).port;
        sent_by = refl;
        reads = host;
        host_ends = host_trimmed text;
        port_form = port_formed (raw_via_of text) form;
        port_ends = port_trimmed text;
        value = refl;
        params = params_sound (raw_via_of text).params ps params (params_part_clean text clean);
      })

-- ---- host and port

is_host_read : (t : List ℕ) (host : Host) → host_read t ≡ Some host → is_host t ≡ true
unfolding host_read
is_host_read t host h = step (is_host t) h where
  step : (e : Bool) → cond e (Some (host_of t)) None ≡ Some host → e ≡ true
  step true k = refl
  step false k = absurd cc

digits_of : (t : List ℕ) → is_port t ≡ true → list_all is_ascii_digit t ≡ true
digits_of t h =
    let run = and_parts (is_run_of is_ascii_digit t) (nat_lt 0 (unwrap_or (number_upto 65535 t) 0)) h in
    (and_parts (not (eqb (length t) 0)) (list_all is_ascii_digit t) run.0).1

module _ (via : Via) (h : IsVia via) where
  is_a_host : is_host h.host ≡ true
  is_a_host = is_host_read h.host via.host h.reads

  port_lacks : (c : ℕ) → is_ascii_digit c ≡ false → eqb 58 c ≡ false → Lacks c (led_by 58 h.port)
  port_lacks c out apart = step h.port h.port_form where
    step : (o : Option (List ℕ)) → passes_if_there is_port o ≡ true → Lacks c (led_by 58 o)
    step None k = tt
    step (Some t) k = (apart, Lacks-from_class is_ascii_digit c out t (digits_of t k))

  sent_by_lacks : Lacks 59 (sent_by_of h.host h.port)
  sent_by_lacks = Lacks-append 59 h.host (led_by 58 h.port) (host_lacks 59 refl refl refl h.host is_a_host) (port_lacks 59 refl refl)

  host_clean : is_clean h.host ≡ true
  host_clean = clean_from_lacks h.host (host_lacks 13 refl refl refl h.host is_a_host) (host_lacks 10 refl refl refl h.host is_a_host) (host_lacks 0 refl refl refl h.host is_a_host)

  port_clean : passes_if_there is_clean h.port ≡ true
  port_clean = step h.port h.port_form where
    step : (o : Option (List ℕ)) → passes_if_there is_port o ≡ true → passes_if_there is_clean o ≡ true
    step None k = refl
    step (Some t) k = token_clean t (digits_token t (digits_of t k))

  sent_by_clean : is_clean via.sent_by ≡ true
  sent_by_clean = ap is_clean h.sent_by ∙ clean_joined h.host (led_by 58 h.port) host_clean (clean_led_by 58 refl h.port port_clean)

  port_ends_well : (front : List ℕ) → Ends front → Ends (front ++ led_by 58 h.port)
  port_ends_well front e = step h.port h.port_form where
    step : (o : Option (List ℕ)) → passes_if_there is_port o ≡ true → Ends (front ++ led_by 58 o)
    step None k = subst (λ (t : List ℕ). Ends t) (sym (append-nil front)) e
    step (Some t) k = ends_behind front 58 t refl (ends_trimmed t (token_trimmed t (digits_token t (digits_of t k))))

  no_host : is_host [] ≡ true → ⊥
  unfolding is_host ip4_of is_hostname
  no_host k = cc

  front_ends : Ends (codes "SIP/2.0/UDP " ++ via.sent_by)
  front_ends =
      subst (λ (t : List ℕ). Ends (codes "SIP/2.0/UDP " ++ t)) (sym h.sent_by)
      (subst (λ (t : List ℕ). Ends t) (append_assoc (codes "SIP/2.0/UDP ") h.host (led_by 58 h.port)) (port_ends_well (codes "SIP/2.0/UDP " ++ h.host) (some h.host is_a_host (ends_trimmed h.host h.host_ends)))) where
        some : (t : List ℕ) → is_host t ≡ true → Ends t → Ends (codes "SIP/2.0/UDP " ++ t)
        some [] k e = absurd (no_host k)
        some (b ∷ bs) k e = end_behind (codes "SIP/2.0/UDP ") b bs e

  host_closed : IsClosed 44 h.host
  host_closed = closed_plain 44 h.host (host_lacks 44 refl refl refl h.host is_a_host) (host_lacks 34 refl refl refl h.host is_a_host) (host_lacks 60 refl refl refl h.host is_a_host)

  port_closed : IsClosed 44 (led_by 58 h.port)
  port_closed = step h.port h.port_form where
    step : (o : Option (List ℕ)) → passes_if_there is_port o ≡ true → IsClosed 44 (led_by 58 o)
    step None k = closed_plain 44 [] tt tt tt
    step (Some t) k = closed_append 44 (58 ∷ []) t (closed_plain 44 (58 ∷ []) (refl, tt) (refl, tt) (refl, tt)) (closed_class 44 is_ascii_digit refl refl refl t (digits_of t k))

  abbrev plain : ℕ → Bool
  plain b = not (eqb b 44) && not (eqb b 34) && not (eqb b 60)

  front_closed : IsClosed 44 (codes "SIP/2.0/UDP " ++ via.sent_by)
  front_closed =
      closed_append 44 (codes "SIP/2.0/UDP ") via.sent_by (closed_class 44 plain refl refl refl (codes "SIP/2.0/UDP ") refl)
      (subst (λ (t : List ℕ). IsClosed 44 t) (sym h.sent_by) (closed_append 44 h.host (led_by 58 h.port) host_closed port_closed))

  -- ---- the whole

  pub via_is_value : IsValue (via_text via)
  via_is_value = record {
    clean = clean_joined (codes "SIP/2.0/UDP " ++ via.sent_by) (behind_semicolons via.params) (clean_joined (codes "SIP/2.0/UDP ") via.sent_by refl sent_by_clean) (params_clean via.params h.params);
    ends = trim_same (via_text via) (record { front = refl; back = params_end (codes "SIP/2.0/UDP " ++ via.sent_by) via.params front_ends h.params });
  }

  pub via_one_piece : pieces 44 Nothing (via_text via) ≡ via_text via ∷ []
  via_one_piece =
      let closed : IsClosed 44 (via_text via) = closed_append 44 (codes "SIP/2.0/UDP " ++ via.sent_by) (behind_semicolons via.params) front_closed (params_closed via.params h.params) in
      ap (pieces 44 Nothing) (sym (append-nil (via_text via))) ∙ closed [] ∙ ap (λ (t : List ℕ). t ∷ []) (append-nil (via_text via))

  abbrev raw : RawVia
  raw = record { name = codes "SIP"; version = codes "2.0"; transport = codes "UDP"; host = h.host; port = h.port; params = written via.params }

  text_is : via_text via ≡ codes "SIP/2.0/UDP " ++ (sent_by_of h.host h.port ++ led_by 59 (written via.params))
  text_is =
      append_assoc (codes "SIP/2.0/UDP ") via.sent_by (behind_semicolons via.params)
      ∙ ap (λ (t : List ℕ). codes "SIP/2.0/UDP " ++ (t ++ behind_semicolons via.params)) h.sent_by
      ∙ ap (λ (t : List ℕ). codes "SIP/2.0/UDP " ++ (sent_by_of h.host h.port ++ t)) (params_again via.params h.params).text

  raw_again : raw_via_of (codes "SIP/2.0/UDP " ++ (sent_by_of h.host h.port ++ led_by 59 (written via.params))) ≡ raw
  unfolding raw_via_of
  raw_again =
      let lacks = sent_by_lacks in
      let colon : Lacks 58 h.host = host_lacks 58 refl refl refl h.host is_a_host in
      rw (before_at 59 (sent_by_of h.host h.port) (written via.params) lacks, after_at 59 (sent_by_of h.host h.port) (written via.params) lacks, before_at 58 h.host h.port colon, after_at 58 h.host h.port colon, h.host_ends, h.port_ends) refl

  raw_formed : is_raw_via raw ≡ true
  unfolding is_raw_via
  raw_formed = h.port_form

  params_read : field_params_read (written via.params) ≡ Some via.params
  params_read = let again = params_again via.params h.params in field_params_again (written via.params) again.form ∙ ap (λ (ps : List Param). Some ps) again.value

  made_again : made raw via.host via.params ≡ via
  made_again = rw (← h.sent_by, ← h.value) refl

  pub via_again : via_of (via_text via) ≡ Some via
  unfolding via_of
  via_again = rw (text_is, raw_again, raw_formed, h.reads, params_read) (ap (λ (v : Via). Some v) made_again)
