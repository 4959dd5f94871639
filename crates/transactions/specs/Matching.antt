-- Which message belongs to which request (RFC 3261 sections 17.1.3, 17.2.3, 9.2 and 8.2.2.2).
use Rattle.std.specs.Prelude.{◌≡◌, ℕ, Bool, true, false, not, ◌&&◌, ◌==◌, nat_eq, List, [], ◌∷◌, codes, unwrap_or, Option, Some, None, if◌then◌else◌, IsSome}
use Rattle.std.specs.Cmp.Lexicographic.{pointwise}
use Rattle.sip_uri.specs.Address.{default_port}
use Rattle.sip_uri.specs.Binding.{same_text, same_host}
use Rattle.sip_message.specs.declared.message.Parts.{Parts}
use Rattle.sip_message.specs.declared.via.Via.{Via}
use Rattle.sip_message.specs.Words.{top_branch, tag_value, is_method}

-- the host without case, and the port
abbrev pub same_sent_by : Via → Via → Bool
same_sent_by a b = same_host a.host b.host && unwrap_or a.port default_port == unwrap_or b.port default_port

-- the top Vias have one branch and one sent-by
abbrev pub same_top : List Via → List Via → Bool
same_top [] [] = true
same_top [] (via ∷ more) = false
same_top (via ∷ more) [] = false
same_top (a ∷ more) (b ∷ others) = same_text (top_branch (a ∷ more)) (top_branch (b ∷ others)) && same_sent_by a b

-- an ACK belongs to the transaction of its INVITE
abbrev pub served_method : List ℕ → List ℕ
served_method method = if pointwise nat_eq method (codes "ACK") then codes "INVITE" else method

-- the request is one with the first: branch, sent-by and method agree (section 17.2.3)
unfoldable pub is_copy : Parts → Parts → Bool
is_copy request first = is_method (served_method request.cseq.method) first && same_top first.vias request.vias

-- Call-ID, the tag of From, and number and method of CSeq agree
abbrev pub is_same_call : Parts → Parts → Bool
is_same_call a b =
    pointwise nat_eq a.call_id b.call_id && same_text (tag_value a.from.params) (tag_value b.from.params)
    && a.cseq.number == b.cseq.number && pointwise nat_eq a.cseq.method b.cseq.method

abbrev pub keeps_tag : Option (List ℕ) → Option (List ℕ) → Bool
keeps_tag response None = true
keeps_tag response (Some tag) = same_text response (Some tag)

-- the tag of To is the request's, where it has one
abbrev pub keeps_to_tag : Parts → Parts → Bool
keeps_to_tag response request = keeps_tag (tag_value response.to.params) (tag_value request.to.params)

-- the response is one to the request: by the branch, and by Call-ID, tags, number and method too (section 17.1.3; that
-- more than branch and method is compared is the server's own)
unfoldable pub is_reply : Parts → Parts → Bool
is_reply response request =
    same_text (top_branch response.vias) (top_branch request.vias) && is_same_call response request && keeps_to_tag response request

-- the same, as equations: `replies` says that the two agree
pub record RepliesTo (response request : Parts) : Type 0 where
  pub branch : top_branch response.vias ≡ top_branch request.vias
  pub call_id : response.call_id ≡ request.call_id
  pub from_tag : tag_value response.from.params ≡ tag_value request.from.params
  pub number : response.cseq.number ≡ request.cseq.number
  pub method : response.cseq.method ≡ request.cseq.method
  pub to_tag : IsSome (tag_value request.to.params) → tag_value response.to.params ≡ tag_value request.to.params

-- the request came on another way before: the rest agrees, and it is not a copy (section 8.2.2.2)
unfoldable pub is_merged_with : Parts → Parts → Bool
is_merged_with request first = is_same_call request first && not (is_copy request first)
