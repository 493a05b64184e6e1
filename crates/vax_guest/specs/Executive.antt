-- The source of the executive under which user programs run. It begins in kernel mode, calls the program at the address in R0 as a
-- procedure in user mode, and serves its CHMK instructions.
use Rattle.std.specs.Prelude.{ℕ, List, [], ◌∷◌, ◌++◌, codes}
use Rattle.std.specs.List.{flat_map}

-- a line ends with a line feed
abbrev pub line : List ℕ → List ℕ
line text = text ++ 10 ∷ []

abbrev pub executive_lines : List (List ℕ)
executive_lines =
    codes "        .TITLE  EXEC"
    ∷ codes "        .PSECT  $SCB"
    ∷ codes "        .LONG   2[16]"
    ∷ codes "        .LONG   KCHM"
    ∷ codes "        .PSECT  EXEC,NOWRT"
    ∷ codes "KBEGIN: PUSHL   #^X03C00000"
    ∷ codes "        PUSHAL  KUSER"
    ∷ codes "        REI"
    ∷ codes "KUSER:  CALLS   #0,(R0)"
    ∷ codes "        CHMK    #0"
    ∷ codes "        .ALIGN  LONG"
    ∷ codes "KCHM:   CASEL   (SP)+,#0,#3"
    ∷ codes "10$:    .WORD   KEXIT-10$,KPUT-10$,KGET-10$,KWRITE-10$"
    ∷ codes "KEXIT:  HALT"
    ∷ codes "KPUT:   MTPR    R0,#35"
    ∷ codes "        REI"
    ∷ codes "KGET:   MFPR    #32,R0"
    ∷ codes "        BBC     #7,R0,10$"
    ∷ codes "        MFPR    #33,R0"
    ∷ codes "        REI"
    ∷ codes "10$:    MNEGL   #1,R0"
    ∷ codes "        REI"
    ∷ codes "KWRITE: PUSHR   #^M<R2,R3>"
    ∷ codes "        MOVL    R1,R3"
    ∷ codes "        MOVZWL  R0,R2"
    ∷ codes "        BEQL    20$"
    ∷ codes "        PROBER  #0,R2,(R1)"
    ∷ codes "        BEQL    30$"
    ∷ codes "10$:    MOVZBL  (R3)+,R0"
    ∷ codes "        MTPR    R0,#35"
    ∷ codes "        SOBGTR  R2,10$"
    ∷ codes "20$:    MOVL    #1,R0"
    ∷ codes "        BRB     40$"
    ∷ codes "30$:    CLRL    R0"
    ∷ codes "40$:    POPR    #^M<R2,R3>"
    ∷ codes "        REI"
    ∷ codes "        .END    KBEGIN"
    ∷ []

abbrev pub executive_source : List ℕ
executive_source = flat_map line executive_lines
