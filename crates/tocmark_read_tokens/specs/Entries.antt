-- The texts of names by first letter. Made by `tools/make-names`.
use Rattle.std.specs.Prelude.{ℕ, ◌==◌, if◌then◌else◌, List, []}
use Rattle.tocmark_read_tokens.specs.declared.entries.TheConstants.{CAPITAL_A, CAPITAL_B, CAPITAL_C, CAPITAL_D, CAPITAL_E, CAPITAL_F, CAPITAL_G, CAPITAL_H, CAPITAL_I, CAPITAL_J, CAPITAL_K, CAPITAL_L, CAPITAL_M, CAPITAL_N, CAPITAL_O, CAPITAL_P, CAPITAL_Q, CAPITAL_R, CAPITAL_S, CAPITAL_T, CAPITAL_U, CAPITAL_V, CAPITAL_W, CAPITAL_X, CAPITAL_Y, CAPITAL_Z, SMALL_A, SMALL_B, SMALL_C, SMALL_D, SMALL_E, SMALL_F, SMALL_G, SMALL_H, SMALL_I, SMALL_J, SMALL_K, SMALL_L, SMALL_M, SMALL_N, SMALL_O, SMALL_P, SMALL_Q, SMALL_R, SMALL_S, SMALL_T, SMALL_U, SMALL_V, SMALL_W, SMALL_X, SMALL_Y, SMALL_Z}

-- the entries of the names that begin with a letter
unfoldable pub entries_of : ℕ → List ℕ
entries_of first =
    if first == 65 then CAPITAL_A.now
    else (if first == 66 then CAPITAL_B.now
    else (if first == 67 then CAPITAL_C.now
    else (if first == 68 then CAPITAL_D.now
    else (if first == 69 then CAPITAL_E.now
    else (if first == 70 then CAPITAL_F.now
    else (if first == 71 then CAPITAL_G.now
    else (if first == 72 then CAPITAL_H.now
    else (if first == 73 then CAPITAL_I.now
    else (if first == 74 then CAPITAL_J.now
    else (if first == 75 then CAPITAL_K.now
    else (if first == 76 then CAPITAL_L.now
    else (if first == 77 then CAPITAL_M.now
    else (if first == 78 then CAPITAL_N.now
    else (if first == 79 then CAPITAL_O.now
    else (if first == 80 then CAPITAL_P.now
    else (if first == 81 then CAPITAL_Q.now
    else (if first == 82 then CAPITAL_R.now
    else (if first == 83 then CAPITAL_S.now
    else (if first == 84 then CAPITAL_T.now
    else (if first == 85 then CAPITAL_U.now
    else (if first == 86 then CAPITAL_V.now
    else (if first == 87 then CAPITAL_W.now
    else (if first == 88 then CAPITAL_X.now
    else (if first == 89 then CAPITAL_Y.now
    else (if first == 90 then CAPITAL_Z.now
    else (if first == 97 then SMALL_A.now
    else (if first == 98 then SMALL_B.now
    else (if first == 99 then SMALL_C.now
    else (if first == 100 then SMALL_D.now
    else (if first == 101 then SMALL_E.now
    else (if first == 102 then SMALL_F.now
    else (if first == 103 then SMALL_G.now
    else (if first == 104 then SMALL_H.now
    else (if first == 105 then SMALL_I.now
    else (if first == 106 then SMALL_J.now
    else (if first == 107 then SMALL_K.now
    else (if first == 108 then SMALL_L.now
    else (if first == 109 then SMALL_M.now
    else (if first == 110 then SMALL_N.now
    else (if first == 111 then SMALL_O.now
    else (if first == 112 then SMALL_P.now
    else (if first == 113 then SMALL_Q.now
    else (if first == 114 then SMALL_R.now
    else (if first == 115 then SMALL_S.now
    else (if first == 116 then SMALL_T.now
    else (if first == 117 then SMALL_U.now
    else (if first == 118 then SMALL_V.now
    else (if first == 119 then SMALL_W.now
    else (if first == 120 then SMALL_X.now
    else (if first == 121 then SMALL_Y.now
    else (if first == 122 then SMALL_Z.now
    else ([]))))))))))))))))))))))))))))))))))))))))))))))))))))
