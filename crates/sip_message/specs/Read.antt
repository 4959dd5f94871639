-- What a datagram says, and its first fault (RFC 3261 sections 7, 8.1.1, 18.3 and 25.1).
use Rattle.std.specs.Prelude.{ℕ, ◌+◌, nat_lt, List, length, Option, Some, None, Result, Ok, Err, if◌then◌else◌}
use Rattle.sip_message.specs.declared.error.MessageError.{MessageError}
use Rattle.sip_message.specs.declared.error.MessageError.TheVariants.{HeaderLine, TooLong}
use Rattle.header_fields.specs.declared.headers.Header.{Header}
use Rattle.sip_message.specs.declared.message.Message.{Message}
use Rattle.sip_message.specs.declared.message.Message.TheVariants as Kinds
use Rattle.sip_message.specs.declared.start.Start.{Start}
use Rattle.sip_message.specs.declared.start.Start.TheVariants.{Asking, Answering}
use Rattle.sip_message.specs.declared.read.Contents.{Contents}
use Rattle.sip_message.specs.Faults.{and_then}
use Rattle.header_fields.specs.Head.{head_of}
use Rattle.header_fields.specs.Lines.{before_line_end, after_line_end, is_clean}
use Rattle.sip_message.specs.Start.{start_of}
use Rattle.sip_message.specs.Values.{values_of}
use Rattle.sip_message.specs.ContentLength.{without_length, body_of}

-- bytes in a datagram that is read, and header lines in it, including continuation lines
abbrev pub max_datagram : ℕ
max_datagram = 16384

abbrev pub max_lines : ℕ
max_lines = 128

-- the values of the header fields are read before the body
unfoldable pub contents_of : Start → List Header → List ℕ → Result Contents MessageError
contents_of start fields rest =
    and_then (values_of start fields) (λ values. and_then (body_of fields rest) (λ body. Ok (record { values = values; body = body })))

abbrev pub message_with : Start → List Header → Contents → Message
message_with (Asking line) fields contents = Kinds.Request (record {
  method = line.method;
  uri = line.uri;
  parts = contents.values.parts;
  max_forwards = contents.values.max_forwards;
  headers = without_length fields;
  body = contents.body;
})
message_with (Answering line) fields contents = Kinds.Response (record {
  status = line.status;
  reason = line.reason;
  parts = contents.values.parts;
  headers = without_length fields;
  body = contents.body;
})

abbrev pub message_by : Start → List Header → List ℕ → Result Message MessageError
message_by start fields rest = and_then (contents_of start fields rest) (λ contents. Ok (message_with start fields contents))

abbrev pub with_fields : Start → Option (List Header × List ℕ) → Result Message MessageError
with_fields start None = Err HeaderLine
with_fields start (Some x) = message_by start x.0 x.1

abbrev pub behind_start : Start → Option (List ℕ) → Result Message MessageError
behind_start start None = Err HeaderLine
behind_start start (Some rest) = with_fields start (head_of (max_lines + 1) rest)

-- a start line with a bare CR or LF, or a NUL, is the fault of a line; its other faults take precedence
abbrev pub clean_start : List ℕ → Option (List ℕ) → Start → Result Message MessageError
clean_start line rest start = if is_clean line then behind_start start rest else Err HeaderLine

unfoldable pub message_of : List ℕ → Result Message MessageError
message_of text =
    let line = before_line_end text in
    if nat_lt max_datagram (length text) then Err TooLong else and_then (start_of line) (clean_start line (after_line_end text))
