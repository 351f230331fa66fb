-- What the code's proofs cite: one line of a load by its position, a share that doesn't fit, and what each line does.
mod LoadSteps
mod Saturation
mod LinesLeft
mod FinancingLines
mod LineTurns
mod CallAnswers
mod LoadLeft
